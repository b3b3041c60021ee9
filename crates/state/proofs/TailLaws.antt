-- The table of speeds behind the entries: where each speed stands, and the speeds past the count.
-- Assumes nothing.
use Prim.Native.Nat.{ℕ, suc, ◌+◌, ◌-◌, ◌*◌, ◌<◌, ◌≤◌}
use mathlib.Core.Path.{◌≡◌, refl, sym, subst, ap, ap₂, ◌∙◌}
use mathlib.Core.Bool.{Bool, true, false}
use mathlib.Core.List.{List}
use native.Mathlib.Decide.{dec_le}
use native.Mathlib.Numerals.{add-one}
use native.Mathlib.Omega.{arith}
use borrow.Author.Tests.{eqb-true, eq-eqb, ne_eqb}
use lib.Dec.{eqb}
use lib.ListN.{length, get_or, drop, length-drop, get_or-eq_default, drop_of_length-le}
use lib.Seq.{drop-cons, drop-drop, get_or-drop}
use Rattle.arith.specs.Choice.{both, every}
use Rattle.arith.specs.Digits.{number}
use Rattle.arith.specs.Ranges.{list_to}
use Rattle.arith.proofs.DigitLaws.{number_below}
use Rattle.arith.proofs.ListLaws.{every_at, at_every, zero_at}
use Rattle.arith.proofs.RangeLaws.{length-list_to, get_d_list_to}
use Rattle.reclaiming.specs.Fields.{Field, width, offset_of}
use Rattle.reclaiming.specs.StateBlock.{State, level_places, tail_fields, speed_field, tail_at, level_count, speed_in, decode}
use Rattle.reclaiming.proofs.StateCodec.{speed_row_lem}
use Rattle.state.specs.Code.{unused_zero}
use Rattle.state.proofs.BlockLaws.{byte_field, bytes_past}

-- the offset of the speed at place k: a test of all places, computed, and what it says of each
abbrev offset_right : ℕ → Bool
offset_right k = eqb (offset_of tail_fields (speed_field k)) (1 + 2 * k)

offsets_right : every offset_right (list_to level_places (λ k. k)) ≡ true
offsets_right = refl

pub speed_offset : (k : ℕ) → k < level_places → offset_of tail_fields (speed_field k) ≡ 1 + 2 * k
speed_offset k h =
    eqb-true (offset_of tail_fields (speed_field k)) (1 + 2 * k)
    (subst (λ (n : ℕ). offset_right n ≡ true) (get_d_list_to level_places (λ j. j) k 0 h)
    (every_at offset_right (list_to level_places (λ j. j)) k 0 offsets_right h))

-- what is read there, where the block's bytes are bytes
pub speed_read :
    (bytes : List ℕ) (k : ℕ) {r : ℕ} →
    k < level_places →
    ((j : ℕ) → get_or bytes j 0 < 256) →
    r ≡ number 256 2 (drop (tail_at + 1 + 2 * k) bytes) →
    (r ≡ speed_in bytes k) × (r ≤ 65535)
speed_read bytes k h b e =
    let at : ℕ = tail_at + 1 + 2 * k in
    let place : at ≡ tail_at + (1 + 2 * k) = omega arith in
    let small : number 256 2 (drop at bytes) < 65536 = number_below 256 2 (drop at bytes) (λ j q. bytes_past at bytes b j) in (
      e
          ∙ ap (λ (l : List ℕ). number 256 2 l) (ap (λ (n : ℕ). drop n bytes) place ∙ sym (drop-drop (1 + 2 * k) tail_at bytes))
          ∙ sym
          (ap₂ (λ (w o : ℕ). number 256 w (drop o (drop tail_at bytes))) (ap (λ (f : Field State). width f) (speed_row_lem k h)) (speed_offset k h)),
      omega arith,
    )

-- the count of levels is one byte
pub levels_byte : (bytes : List ℕ) → get_or bytes tail_at 0 ≡ level_count bytes
levels_byte bytes = sym (byte_field bytes tail_at)

-- the speeds at all places
abbrev rows : List ℕ → List ℕ
rows bytes = list_to level_places (speed_in bytes)

-- a walk over the speeds past the count: from place k on they decide
pub record ClearFrom (bytes : List ℕ) (k : ℕ) : Type 0 where
  pub left : every (eqb 0) (drop k (rows bytes)) ≡ unused_zero bytes

pub clear_none : (bytes : List ℕ) {k : ℕ} → k ≡ level_count bytes → ClearFrom bytes k
clear_none bytes e = record { left = ap (λ (n : ℕ). every (eqb 0) (drop n (rows bytes))) e }

module _ {bytes : List ℕ} {k : ℕ} (so_far : ClearFrom bytes k) where
  pub clear_all : level_places ≤ k → true ≡ unused_zero bytes
  clear_all h = sym (ap (every (eqb 0)) (drop_of_length-le (rows bytes) h)) ∙ so_far.left

  module _ (h : k < level_places) {x : ℕ} (read : x ≡ speed_in bytes k) where
    clear_cons : both (eqb 0 x) (every (eqb 0) (drop (suc k) (rows bytes))) ≡ unused_zero bytes
    clear_cons =
        ap (λ (y : ℕ). both (eqb 0 y) (every (eqb 0) (drop (suc k) (rows bytes)))) (read ∙ sym (get_d_list_to level_places (speed_in bytes) k 0 h))
        ∙ sym (ap (every (eqb 0)) (drop-cons (rows bytes) k 0 h))
        ∙ so_far.left

    pub clear_not : (x ≡ 0 → ⊥) → false ≡ unused_zero bytes
    clear_not f =
        sym (ap (λ (t : Bool). both t (every (eqb 0) (drop (suc k) (rows bytes)))) (ne_eqb 0 x (λ e. f (sym e)))) ∙ clear_cons

    pub clear_more : x ≡ 0 → ClearFrom bytes (k + 1)
    clear_more e = record {
      left =
          ap (λ (n : ℕ). every (eqb 0) (drop n (rows bytes))) (add-one k)
          ∙ sym (ap (λ (t : Bool). both t (every (eqb 0) (drop (suc k) (rows bytes)))) (eq-eqb 0 x (sym e)))
          ∙ clear_cons;
    }

-- the speed of a level in the state that a block reads as
module _ (bytes : List ℕ) where
  pub levels_in : length (decode bytes).speeds ≡ level_count bytes
  levels_in = length-list_to (level_count bytes) (speed_in bytes)

  pub level_speed : (k : ℕ) → k < level_count bytes → get_or (decode bytes).speeds k 0 ≡ speed_in bytes k
  level_speed k h = get_d_list_to (level_count bytes) (speed_in bytes) k 0 h

  past_levels : (k : ℕ) → level_count bytes ≤ k → get_or (decode bytes).speeds k 0 ≡ 0
  past_levels k h = get_or-eq_default (decode bytes).speeds 0 {n = k} (omega (arith, levels_in))

  -- it fits its two bytes, where the block's bytes are bytes
  pub speed_small : ((j : ℕ) → get_or bytes j 0 < 256) → (k : ℕ) → k < level_places → get_or (decode bytes).speeds k 0 < 65536
  speed_small b k h =
      elim (dec_le (suc k) (level_count bytes)) [
        | yes l ↦ omega (arith, level_speed k l, (speed_read bytes k h b refl).0, (speed_read bytes k h b refl).1)
        | no l ↦ omega (arith, past_levels k (omega arith))
      ]

  -- where the speeds past the count are zero, each place has the state's, and the other way round
  pub speeds_same : unused_zero bytes ≡ true → (k : ℕ) → k < level_places → get_or (decode bytes).speeds k 0 ≡ speed_in bytes k
  speeds_same z k h =
      elim (dec_le (suc k) (level_count bytes)) [
        | yes l ↦ level_speed k l
        | no l ↦
            let n : ℕ = level_count bytes in
            let e : n + (k - n) ≡ k = omega arith in
            past_levels k (omega arith)
            ∙ sym (zero_at (drop n (rows bytes)) z (k - n))
            ∙ get_or-drop n (rows bytes) (k - n) 0
            ∙ ap (λ (j : ℕ). get_or (rows bytes) j 0) e
            ∙ get_d_list_to level_places (speed_in bytes) k 0 h
      ]

  pub same_unused : ((k : ℕ) → k < level_places → get_or (decode bytes).speeds k 0 ≡ speed_in bytes k) → unused_zero bytes ≡ true
  same_unused same =
      let n : ℕ = level_count bytes in
      at_every (eqb 0) (drop n (rows bytes)) 0
      (λ k h.
      let l : n + k < level_places = omega (arith, length-drop n (rows bytes)) in
      eq-eqb 0 (get_or (drop n (rows bytes)) k 0)
      (sym
      (get_or-drop n (rows bytes) k 0
      ∙ get_d_list_to level_places (speed_in bytes) (n + k) 0 l
      ∙ sym (same (n + k) l)
      ∙ past_levels (n + k) (omega arith))))
