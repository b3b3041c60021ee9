-- A block is laid out exactly if the zero byte in front of the entries is zero, and so are the bytes past the entries and the speeds past
-- the count of levels.
-- Assumes nothing.
use Prim.Native.Nat.{ℕ, zero, suc, ◌+◌, ◌-◌, ◌*◌, ◌<◌, ◌≤◌}
use mathlib.Core.Path.{◌≡◌, refl, sym, ap, ap₂, ◌∙◌}
use mathlib.Core.Bool.{Bool, true, false}
use mathlib.Core.List.{List, [], ◌∷◌, ◌++◌, append_assoc}
use native.Mathlib.Nat.{one-le-pow}
use native.Mathlib.Omega.{arith}
use native.Mathlib.Decide.{dec_le}
use borrow.Author.Tests.{eqb-true, eq-eqb, ne_eqb}
use lib.Dec.{eqb}
use lib.ListN.{length, get_or, take, drop, replicate, length-drop, length-replicate, take-append-drop}
use lib.Seq.{drop-drop, drop-length, length-take-le}
use Rattle.std.specs.List.{sum}
use Rattle.std.proofs.lemmas.List.{take_all, drop-take}
use Rattle.std.proofs.lemmas.List.Sums.{sum_by-cons}
use Rattle.arith.specs.Choice.{both, every}
use Rattle.arith.specs.Digits.{number, digits}
use Rattle.arith.proofs.Tests.{same_test, both_yes}
use Rattle.arith.proofs.DigitLaws.{length_digits, number_digits, digits_number}
use Rattle.reclaiming.specs.Fields.{Field, field, zeros, fields_bytes, fields_length, offset_of, read_field}
use Rattle.reclaiming.specs.StateBlock.{State, head_fields, zero_field, entry_fields, period_field, worst_field, tail_fields, end_fields, places, head_length, entry_length, tail_at, state_length}
use Rattle.reclaiming.specs.StateBlock.{level_places, speed_field, speed_in, entry_bytes, entries_bytes, tail_bytes, encode, entry_from, entries_from, state_count, decode, same_bytes, laid_out}
use Rattle.state.specs.Code.{entry_at, unused_zero}
use Rattle.reclaiming.proofs.StateCodec.{both_parts, past_head, speed_back, length-entries_from, same_bytes_lem, bytes_same}
use Rattle.state.proofs.TailLaws.{levels_in, speed_small, speeds_same, same_unused}
use Rattle.state.proofs.BlockLaws.{count_in_lem, byte_field, bytes_past}

-- three tests, in two ways
both_assoc : (a b c : Bool) → both a (both b c) ≡ both (both a b) c
both_assoc true b c = refl
both_assoc false b c = refl

-- bytes are all zero exactly if their sum is
zero_sum : (l : List ℕ) → eqb (sum l) 0 ≡ every (eqb 0) l
zero_sum [] = refl
zero_sum (x ∷ l) =
    let c : sum (x ∷ l) ≡ x + sum l = sum_by-cons (λ (n : ℕ). n) x l in
    elim (dec_le 1 x) [
      | yes h ↦ simp (ne_eqb (sum (x ∷ l)) 0 (λ e. omega (arith, c)), ne_eqb 0 x (λ e. omega arith))
      | no h ↦
          let e : sum (x ∷ l) ≡ sum l = omega (arith, c) in
          ap (λ (n : ℕ). eqb n 0) e ∙ zero_sum l ∙ ap (λ (b : Bool). both b (every (eqb 0) l)) (sym (eq-eqb 0 x (omega arith)))
    ]

-- the bytes of a block from a place on, up to the end of the places for entries
abbrev pub places_from : List ℕ → ℕ → List ℕ
places_from bytes at = take (tail_at - at) (drop at bytes)

-- a sum of them all decides whether they are zero
pub zero_places :
    (bytes : List ℕ) (at : ℕ) {s i : ℕ} →
    at ≤ tail_at →
    s ≡ sum (take i (places_from bytes at)) →
    length (places_from bytes at) ≤ i →
    eqb s 0 ≡ every (eqb 0) (drop at (take tail_at bytes))
zero_places bytes at h e past =
    let z : tail_at ≡ at + (tail_at - at) = omega arith in
    ap (λ (n : ℕ). eqb n 0) (e ∙ ap sum (take_all _ (places_from bytes at) past))
    ∙ zero_sum (places_from bytes at)
    ∙ sym (ap (every (eqb 0)) (ap (λ (n : ℕ). drop at (take n bytes)) z ∙ drop-take at (tail_at - at) bytes))

-- comparing bytes piece by piece
same_append :
    (xs ys zs ws : List ℕ) → length xs ≡ length ys → same_bytes (xs ++ zs) (ys ++ ws) ≡ both (same_bytes xs ys) (same_bytes zs ws)
same_append [] [] zs ws h = refl
same_append [] (y ∷ ys) zs ws h = absurd (omega arith)
same_append (x ∷ xs) [] zs ws h = absurd (omega arith)
same_append (x ∷ xs) (y ∷ ys) zs ws h =
    ap (λ (b : Bool). both (eqb x y) b) (same_append xs ys zs ws (omega arith))
    ∙ both_assoc (eqb x y) (same_bytes xs ys) (same_bytes zs ws)

-- n bytes in front of others
same_front :
    (n : ℕ) (xs zs l : List ℕ) → length xs ≡ n → n ≤ length l →
    same_bytes (xs ++ zs) l ≡ both (same_bytes xs (take n l)) (same_bytes zs (drop n l))
same_front n xs zs l e h =
    ap (λ (x : List ℕ). same_bytes (xs ++ zs) x) (sym (take-append-drop n l))
    ∙ same_append xs (take n l) zs (drop n l) (e ∙ sym (length-take-le n l h))

same_zeros : (m : ℕ) (l : List ℕ) → length l ≡ m → same_bytes (replicate m 0) l ≡ every (eqb 0) l
same_zeros zero [] h = refl
same_zeros zero (x ∷ l) h = absurd (omega arith)
same_zeros (suc m) [] h = absurd (omega arith)
same_zeros (suc m) (x ∷ l) h = ap (λ (b : Bool). both (eqb 0 x) b) (same_zeros m l (omega arith))

-- bytes that are a number of n bytes, and bytes that are all zero, are told by the number
module _ (n : ℕ) (l : List ℕ) (long : n ≤ length l) (small : (k : ℕ) → get_or l k 0 < 256) where
  number_back : digits 256 n (number 256 n l) ≡ take n l
  number_back = digits_number 256 n l long (λ k q. small k)

  same_number : same_bytes (digits 256 n (number 256 n l)) (take n l) ≡ true
  same_number = ap (λ (x : List ℕ). same_bytes x (take n l)) number_back ∙ bytes_same (take n l)

  same_zero : same_bytes (digits 256 n 0) (take n l) ≡ eqb (number 256 n l) 0
  same_zero =
      same_test (same_bytes (digits 256 n 0) (take n l)) (eqb (number 256 n l) 0)
      (λ e. eq-eqb (number 256 n l) 0
      (ap (λ (x : List ℕ). number 256 n x)
      (sym (take-append-drop n l) ∙ ap (λ (x : List ℕ). x ++ drop n l) (sym (same_bytes_lem (digits 256 n 0) (take n l) e)))
      ∙ number_digits 256 n 0 (drop n l) (omega arith) (one-le-pow n 256 (omega arith))))
      (λ e. ap (λ (x : ℕ). same_bytes (digits 256 n x) (take n l)) (sym (eqb-true (number 256 n l) 0 e)) ∙ same_number)

-- the numbers of some fields, and those read off bytes where the fields begin at a place
abbrev numbers_of : {X : Type 0} → List (Field X) → X → List ℕ
numbers_of [] x = []
numbers_of (field n value ∷ fs) x = value x ∷ numbers_of fs x
numbers_of (zeros n ∷ fs) x = numbers_of fs x

abbrev numbers_at : {X : Type 0} → List (Field X) → ℕ → List ℕ → List ℕ
numbers_at [] at bytes = []
numbers_at (field n value ∷ fs) at bytes = number 256 n (drop at bytes) ∷ numbers_at fs (at + n) bytes
numbers_at (zeros n ∷ fs) at bytes = numbers_at fs (at + n) bytes

-- whether the zero bytes among some fields are zero, where the fields begin at a place
abbrev zeros_in : {X : Type 0} → List (Field X) → ℕ → List ℕ → Bool
zeros_in [] at bytes = true
zeros_in (field n value ∷ fs) at bytes = zeros_in fs (at + n) bytes
zeros_in (zeros n ∷ fs) at bytes = both (eqb (number 256 n (drop at bytes)) 0) (zeros_in fs (at + n) bytes)

-- bytes are those of the numbers read off them exactly if the zero bytes are zero
module _ {X : Type 0} (x : X) (l rest : List ℕ) (small : (k : ℕ) → get_or l k 0 < 256) where
  same_fields :
      (fs : List (Field X)) (at : ℕ) →
      at + fields_length fs ≤ length l →
      numbers_of fs x ≡ numbers_at fs at l →
      same_bytes (fields_bytes fs x ++ rest) (drop at l) ≡ both (zeros_in fs at l) (same_bytes rest (drop (at + fields_length fs) l))
  same_fields [] at h e =
      let z : at ≡ at + 0 = omega arith in
      ap (λ (k : ℕ). same_bytes rest (drop k l)) z
  same_fields (field n value ∷ fs) at h e =
      let z : at + n + fields_length fs ≡ at + (n + fields_length fs) = omega arith in
      let long : n ≤ length (drop at l) = omega (arith, length-drop at l) in
      let front : List ℕ = digits 256 n (value x) in
      ap (λ (y : List ℕ). same_bytes y (drop at l)) (append_assoc front (fields_bytes fs x) rest)
      ∙ same_front n front (fields_bytes fs x ++ rest) (drop at l) (length_digits 256 n (value x)) long
      ∙ ap (λ (t : Bool). both t (same_bytes (fields_bytes fs x ++ rest) (drop n (drop at l))))
      (ap (λ (y : ℕ). same_bytes (digits 256 n y) (take n (drop at l))) (ap (λ (ns : List ℕ). get_or ns 0 0) e)
      ∙ same_number n (drop at l) long (bytes_past at l small))
      ∙ ap (λ (y : List ℕ). same_bytes (fields_bytes fs x ++ rest) y) (drop-drop n at l)
      ∙ same_fields fs (at + n) (omega arith) (ap (λ (ns : List ℕ). drop 1 ns) e)
      ∙ ap (λ (k : ℕ). both (zeros_in fs (at + n) l) (same_bytes rest (drop k l))) z
  same_fields (zeros n ∷ fs) at h e =
      let z : at + n + fields_length fs ≡ at + (n + fields_length fs) = omega arith in
      let long : n ≤ length (drop at l) = omega (arith, length-drop at l) in
      let zero-here : Bool = eqb (number 256 n (drop at l)) 0 in
      ap (λ (y : List ℕ). same_bytes y (drop at l)) (append_assoc (digits 256 n 0) (fields_bytes fs x) rest)
      ∙ same_front n (digits 256 n 0) (fields_bytes fs x ++ rest) (drop at l) (length_digits 256 n 0) long
      ∙ ap₂ (λ (t : Bool) (y : List ℕ). both t (same_bytes (fields_bytes fs x ++ rest) y)) (same_zero n (drop at l) long (bytes_past at l small))
      (drop-drop n at l)
      ∙ ap (λ (t : Bool). both zero-here t)
      (same_fields fs (at + n) (omega arith) e ∙ ap (λ (k : ℕ). both (zeros_in fs (at + n) l) (same_bytes rest (drop k l))) z)
      ∙ both_assoc zero-here (zeros_in fs (at + n) l) (same_bytes rest (drop (at + (n + fields_length fs)) l))

-- the numbers of an entry that is read off bytes are those that stand there
entry_numbers : (l : List ℕ) → numbers_of entry_fields (entry_from l) ≡ numbers_at entry_fields 0 l
entry_numbers l =
    ap (λ (n : ℕ). read_field entry_fields period_field l ∷ n ∷ drop 2 (numbers_at entry_fields 0 l)) (both_parts (read_field entry_fields worst_field l))

-- n entries, then m zero bytes, then others
same_entries :
    (n m : ℕ) (l rest : List ℕ) →
    entry_length * n + m ≤ length l →
    ((k : ℕ) → get_or l k 0 < 256) →
    same_bytes (entries_bytes (entries_from n l) ++ (replicate m 0 ++ rest)) l
    ≡ both (every (eqb 0) (take m (drop (entry_length * n) l))) (same_bytes rest (drop (entry_length * n + m) l))
same_entries zero m l rest h b =
    let z : m ≡ entry_length * 0 + m = omega arith in
    same_front m (replicate m 0) rest l (length-replicate m 0) (omega arith)
    ∙ ap₂ (λ (t : Bool) (k : ℕ). both t (same_bytes rest (drop k l))) (same_zeros m (take m l) (length-take-le m l (omega arith))) z
same_entries (suc n) m l rest h b =
    let d : List ℕ = drop entry_length l in
    let after : List ℕ = entries_bytes (entries_from n d) ++ (replicate m 0 ++ rest) in
    let p : entry_length + entry_length * n ≡ entry_length * suc n = omega arith in
    let q : entry_length + (entry_length * n + m) ≡ entry_length * suc n + m = omega arith in
    ap (λ (y : List ℕ). same_bytes y l) (append_assoc (entry_bytes (entry_from l)) (entries_bytes (entries_from n d)) (replicate m 0 ++ rest))
    ∙ same_fields (entry_from l) l after b entry_fields 0 (omega arith) (entry_numbers l)
    ∙ same_entries n m d rest (omega (arith, length-drop entry_length l)) (bytes_past entry_length l b)
    ∙ ap₂ (λ (x y : List ℕ). both (every (eqb 0) (take m x)) (same_bytes rest y))
    (drop-drop (entry_length * n) entry_length l ∙ ap (λ (k : ℕ). drop k l) p)
    (drop-drop (entry_length * n + m) entry_length l ∙ ap (λ (k : ℕ). drop k l) q)

-- the tests of a block past its head
abbrev zeros_past : List ℕ → Bool
zeros_past block = every (eqb 0) (drop (entry_at (state_count block)) (take tail_at block))

-- a block of as many bytes as a state has, of at most 16 tasks
pub record BlockBytes (block : List ℕ) : Type 0 where
  pub size : length block ≡ state_length
  pub few : state_count block ≤ places
  pub bytes : (k : ℕ) → get_or block k 0 < 256

module _ {block : List ℕ} (known : BlockBytes block) where
  abbrev s : State
  s = decode block

  -- what stands past the places
  abbrev tail : List ℕ
  tail = drop tail_at block

  tail_bytes_lem : (k : ℕ) → get_or tail k 0 < 256
  tail_bytes_lem = bytes_past tail_at block known.bytes

  tail_length : length tail ≡ state_length - tail_at
  tail_length = length-drop tail_at block ∙ ap (λ (n : ℕ). n - tail_at) known.size

  -- the total is what it is written as, whatever it is
  total_written : same_bytes (fields_bytes end_fields s) (drop (fields_length tail_fields) tail) ≡ true
  total_written =
      let at : ℕ = fields_length tail_fields in
      let end : at + fields_length end_fields ≡ length tail = omega (arith, tail_length) in
      same_fields s tail [] tail_bytes_lem end_fields at (omega (arith, tail_length))
      (λ i. number 256 4 (sym (drop-drop at tail_at block) i) ∷ [])
      ∙ ap (λ (l : List ℕ). same_bytes [] l) (ap (λ (k : ℕ). drop k tail) end ∙ drop-length tail)

  -- where each place has the state's speed, the tail is what it is written as
  tail_written : unused_zero block ≡ true → same_bytes (tail_bytes s) tail ≡ true
  tail_written z =
      let speed : (k : ℕ) → k < level_places → get_or s.speeds k 0 ≡ speed_in block k = speeds_same block z in
      same_fields s tail (fields_bytes end_fields s) tail_bytes_lem tail_fields 0 (omega (arith, tail_length))
      (λ i. levels_in block i
      ∷ speed 0 (omega arith) i
      ∷ speed 1 (omega arith) i
      ∷ speed 2 (omega arith) i
      ∷ speed 3 (omega arith) i
      ∷ speed 4 (omega arith) i
      ∷ speed 5 (omega arith) i
      ∷ speed 6 (omega arith) i
      ∷ speed 7 (omega arith) i
      ∷ [])
      ∙ total_written

  -- and the other way round: each place is read as what was written there
  tail_read : same_bytes (tail_bytes s) tail ≡ true → unused_zero block ≡ true
  tail_read z =
      same_unused block
      (λ k h.
      let small : get_or s.speeds k 0 < 65536 = speed_small block known.bytes k h in
      sym (speed_back s k h small) ∙ ap (λ (l : List ℕ). read_field tail_fields (speed_field k) l) (same_bytes_lem (tail_bytes s) tail z))

  tail_same : same_bytes (tail_bytes s) tail ≡ unused_zero block
  tail_same = same_test (same_bytes (tail_bytes s) tail) (unused_zero block) tail_read tail_written

  entries_same : same_bytes (past_head s) (drop head_length block) ≡ both (zeros_past block) (unused_zero block)
  entries_same =
      let n : ℕ = state_count block in
      let m : ℕ = entry_length * (places - n) in
      let l : List ℕ = drop head_length block in
      let last : List ℕ = tail_bytes s in
      let p : head_length + (entry_length * n + m) ≡ tail_at = omega (arith, known.few) in
      let q : entry_at n + m ≡ tail_at = omega (arith, known.few) in
      ap (λ (k : ℕ). same_bytes (entries_bytes (entries_from n l) ++ (replicate (entry_length * (places - k)) 0 ++ last)) l) (count_in_lem block)
      ∙ same_entries n m l last (omega (arith, length-drop head_length block, known.size, known.few))
      (bytes_past head_length block known.bytes)
      ∙ ap₂ (λ (x y : List ℕ). both (every (eqb 0) x) (same_bytes last y))
      (ap (λ (x : List ℕ). take m x) (drop-drop (entry_length * n) head_length block)
      ∙ sym (drop-take (entry_at n) m block)
      ∙ ap (λ (k : ℕ). drop (entry_at n) (take k block)) q)
      (drop-drop (entry_length * n + m) head_length block ∙ ap (λ (k : ℕ). drop k block) p)
      ∙ ap (λ (t : Bool). both (zeros_past block) t) tail_same

  layout : laid_out block ≡ both (zeros_in head_fields 0 block) (both (zeros_past block) (unused_zero block))
  layout =
      ap (λ (t : Bool). both t (same_bytes (encode s) block)) (eq-eqb (length block) state_length known.size)
      ∙ same_fields s block (past_head s) known.bytes head_fields 0 (omega (arith, known.size)) (simp length-entries_from)
      ∙ ap (λ (t : Bool). both (zeros_in head_fields 0 block) t) entries_same

  -- each way out of the test
  module _ {z : ℕ} (read : z ≡ get_or block (offset_of head_fields zero_field) 0) where
    head_is : zeros_in head_fields 0 block ≡ eqb z 0
    head_is =
        both_yes (eqb (read_field head_fields zero_field block) 0)
        ∙ ap (λ (n : ℕ). eqb n 0) (byte_field block (offset_of head_fields zero_field) ∙ sym read)

    pub zero_not : (z ≡ 0 → ⊥) → false ≡ laid_out block
    zero_not f =
        sym (layout ∙ ap (λ (t : Bool). both t (both (zeros_past block) (unused_zero block))) (head_is ∙ ne_eqb z 0 f))

    module _ (zero-byte : z ≡ 0) {count : ℕ} (counted : count ≡ state_count block)
        {y : Bool} (cleared : y ≡ every (eqb 0) (drop (entry_at count) (take tail_at block))) where
      places_are : y ≡ zeros_past block
      places_are = cleared ∙ ap (λ (n : ℕ). every (eqb 0) (drop (entry_at n) (take tail_at block))) counted

      head_zero : laid_out block ≡ both y (unused_zero block)
      head_zero =
          layout ∙ ap₂ (λ (s t : Bool). both s (both t (unused_zero block))) (head_is ∙ eq-eqb z 0 zero-byte) (sym places_are)

      pub zeros_decide : y ≡ false → false ≡ laid_out block
      zeros_decide f = sym (head_zero ∙ ap (λ (t : Bool). both t (unused_zero block)) f)

      pub unused_decide : {u : Bool} → y ≡ true → u ≡ unused_zero block → u ≡ laid_out block
      unused_decide f found = found ∙ sym (head_zero ∙ ap (λ (t : Bool). both t (unused_zero block)) f)
