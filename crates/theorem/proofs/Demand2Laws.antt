-- Demand 2, closed: `demand2`. Assumes nothing.
use Rattle.refusal.specs.Grounds.{answer_number, number_value}
use Rattle.std.specs.Prelude.{Ok}
use Prim.Native.Nat.{ℕ, ◌<◌}
use mathlib.Core.Path.{◌≡◌, sym, ap, ◌∙◌}
use mathlib.Core.Logic.{◌↔◌}
use native.Mathlib.Omega.{arith}
use borrow.Author.Tests.{ltb-true}
use lib.Dec.{ltb}
use Rattle.refusal.proofs.GroundsLaws.{unless_passed}
use Rattle.ports.specs.declared.size.Block.{Block}
use Rattle.ports.specs.Block.{tiles, sized, port_of}
use Rattle.ports.specs.Lengths.{ports, ports_per_tile}
use Rattle.ports.proofs.BlockLaws.{port_of_lt}
use Rattle.fabric.specs.Joins.{Linked, Lowest}
use Rattle.fabric.specs.Wire.{wire_of}
use Rattle.fabric.specs.WireNumber.{wire_number}
use Rattle.fabric.proofs.WireLaws.{wire_exact, wire_lowest}
use Rattle.fabric.proofs.WireNumberLaws.{wire_number_wire}
use Rattle.config.proofs.MeaningLaws.{read_means}
use Rattle.config.proofs.RoundTrip.{written_reads, read_writes}
use Rattle.theorem.specs.Demand2.{Demand2}
use Rattle.theorem.proofs.FileLaws.{file_back, filed_reads, read_files}
use Rattle.theorem.proofs.ReadingLaws.{reads_exactly, reads_one}
use Rattle.theorem.proofs.PassesLaws.{four_exactly}
use Rattle.theorem.proofs.FightLaws.{fight_exactly, fight_lowest, follow_fight_exactly, follow_fight_lowest}

module _ (B : Block) where
  -- what a yes of `wire_number` shows
  number_is : (T q w : ℕ) → wire_number B T q ≡ Ok w → (port_of T q < ports B) × (wire_of B (port_of T q) ≡ w)
  unfolding wire_number
  number_is T q w e =
      let s = unless_passed answer_number (sized B) _ _ (Ok w) (λ z. absurd (omega arith)) e in
      let t = unless_passed answer_number (ltb T (tiles B)) _ _ (Ok w) (λ z. absurd (omega arith)) s.1 in
      let p = unless_passed answer_number (ltb q ports_per_tile) _ (Ok (wire_of B (port_of T q))) (Ok w) (λ z. absurd (omega arith)) t.1 in
      (port_of_lt B T q (ltb-true _ _ t.0) (ltb-true _ _ p.0), ap number_value p.1)

  one_wire : (T q T' q' w w' : ℕ) → wire_number B T q ≡ Ok w → wire_number B T' q' ≡ Ok w' → Linked B (port_of T q) (port_of T' q') ↔ (w ≡ w')
  one_wire T q T' q' w w' e e' =
      let a = number_is T q w e in
      let b = number_is T' q' w' e' in
      let both = wire_exact B (port_of T q) (port_of T' q') a.0 b.0 in
      (λ l. sym a.1 ∙ both.0 l ∙ b.1, λ s. both.1 (a.1 ∙ s ∙ sym b.1))

  lowest_port : (T q w : ℕ) → wire_number B T q ≡ Ok w → Lowest B (port_of T q) w
  lowest_port T q w e = let a = number_is T q w e in rw a.1 at (wire_lowest B (port_of T q) a.0)

pub demand2 : Demand2
demand2 = record {
  reads = read_means;
  reads_exactly = reads_exactly;
  reads_one = reads_one;
  written_reads = written_reads;
  read_writes = read_writes;
  file_back = file_back;
  filed_reads = filed_reads;
  read_files = read_files;
  numbered = λ B T q size lt lq. (wire_of B (port_of T q), sym (wire_number_wire B T q size lt lq));
  one_wire = one_wire;
  lowest_port = lowest_port;
  fight_exactly = fight_exactly;
  four_exactly = four_exactly;
  fight_lowest = fight_lowest;
  follow_fight_exactly = follow_fight_exactly;
  follow_fight_lowest = follow_fight_lowest;
}
