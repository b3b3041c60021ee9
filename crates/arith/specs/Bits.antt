-- 01, "Blocks": "Bits are packed most significant first."
-- Assumes nothing.
use Rattle.std.specs.Prelude.{ℕ, zero, suc, List, [], ◌∷◌, ◌++◌, length, get_or, drop}
use Rattle.arith.specs.Sum.{sum_of}
use Rattle.arith.specs.Need.{need}
use Rattle.arith.specs.Digits.{number, digits}

-- the bits of a list of bytes
abbrev pub unpacked : List ℕ → List ℕ
unpacked [] = []
unpacked (b ∷ bs) = digits 2 8 b ++ unpacked bs

-- the first n bytes of a list of bits
abbrev pub packed_to : ℕ → List ℕ → List ℕ
packed_to zero bits = []
packed_to (suc n) bits = number 2 8 bits ∷ packed_to n (drop 8 bits)

-- numbers as bits, each in a field of so many; one that is not there is 0
abbrev pub fields_bits : List ℕ → List ℕ → List ℕ
fields_bits [] ns = []
fields_bits (w ∷ ws) ns = digits 2 w (get_or ns 0 0) ++ fields_bits ws (drop 1 ns)

-- the numbers that stand in such fields
abbrev pub fields_from : List ℕ → List ℕ → List ℕ
fields_from [] bits = []
fields_from (w ∷ ws) bits = number 2 w bits ∷ fields_from ws (drop w bits)

-- how many bits they take
abbrev pub width_of : List ℕ → ℕ
width_of ws = sum_of (λ (w : ℕ). w) ws

-- a list of bits as bytes, "then zero bits to a whole byte"
abbrev pub packed : List ℕ → List ℕ
packed bits = packed_to (need 8 (length bits)) bits
