-- Bytes as a list of fields, one after another: a number in so many bytes ("Numbers have their most significant byte first"), or zero bytes.
-- Assumes nothing.
use Rattle.std.specs.Prelude.{ℕ, List, [], ◌∷◌, ◌++◌, get_or, take, drop}
use Rattle.arith.specs.Sum.{sum_of}
use Rattle.arith.specs.Digits.{number, digits}

pub data Field (X : Type 0) : Type 0 where
  field : ℕ → (X → ℕ) → Field X
  zeros : ℕ → Field X

-- its count of bytes, and the number in them
abbrev pub width : {X : Type 0} → Field X → ℕ
width (field n value) = n
width (zeros n) = n

abbrev pub value_in : {X : Type 0} → X → Field X → ℕ
value_in x (field n value) = value x
value_in x (zeros n) = 0

-- the bytes of all fields, and how many they are
abbrev pub fields_bytes : {X : Type 0} → List (Field X) → X → List ℕ
fields_bytes [] x = []
fields_bytes (f ∷ fs) x = digits 256 (width f) (value_in x f) ++ fields_bytes fs x

abbrev pub fields_length : {X : Type 0} → List (Field X) → ℕ
fields_length fs = sum_of width fs

-- field k of a list: its width, and its offset, which is the bytes before it
abbrev pub field_at : {X : Type 0} → List (Field X) → ℕ → Field X
field_at fs k = get_or fs k (zeros 0)

abbrev pub width_of : {X : Type 0} → List (Field X) → ℕ → ℕ
width_of fs k = width (field_at fs k)

abbrev pub offset_of : {X : Type 0} → List (Field X) → ℕ → ℕ
offset_of fs k = fields_length (take k fs)

-- the number in field k, read off bytes
abbrev pub read_field : {X : Type 0} → List (Field X) → ℕ → List ℕ → ℕ
read_field fs k bytes = number 256 (width_of fs k) (drop (offset_of fs k) bytes)
