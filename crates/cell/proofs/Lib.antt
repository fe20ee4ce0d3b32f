-- The laws of `cell` that its callers cite.
pub mod SettingsLaws  -- flags_of_cell: a cell made from flags has them
pub mod LookupLaws  -- lookup_bit_lt, majority_lt: both give a bit; looked_up_bits: how the inputs weigh
pub mod HalvesLaws  -- by_halves: where the wanted bit is after each of the four choices. halved_among: what one choice leaves
pub mod NextStateLaws  -- next_sync_disabled: without the enable the state is kept
