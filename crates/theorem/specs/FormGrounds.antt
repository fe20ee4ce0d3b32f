-- The grounds of converting a block's bits from bytes to words and back in their orders (document 02, W7), over the number of an answer and what comes
-- with it.
use Rattle.std.specs.Prelude.{ℕ, ◌≡◌, List, length}
use Rattle.ports.specs.declared.size.Size.{Size}
use Rattle.ports.specs.Block.{Allowed}
use Rattle.ports.specs.Lengths.{bits_length, bytes_length}
use Rattle.words.specs.Stray.{Stray, LowestStray}
use Rattle.theorem.specs.Order.{Check, Yes, at0}

-- no row has "a set bit in columns 54 to 63"
abbrev pub NoStray : List ℕ → Type 0
NoStray words = (i : ℕ) → Stray words i → ⊥

-- bytes to words: 1 and 2
abbrev pub WordsGrounds : Size → (bytes words : List ℕ) → ℕ → ℕ → Type 0
WordsGrounds S bytes words =
    Check 1 (Allowed S) at0
    (Check 2 ((length bytes ≡ bytes_length S) × (length words ≡ bits_length S)) at0
    (Yes at0))

-- words to bytes: 1, 2 and 4
abbrev pub BytesGrounds : Size → (words bytes : List ℕ) → ℕ → ℕ → Type 0
BytesGrounds S words bytes =
    Check 1 (Allowed S) at0
    (Check 2 ((length bytes ≡ bytes_length S) × (length words ≡ bits_length S)) at0
    (Check 4 (NoStray words) (LowestStray words)
    (Yes at0)))
