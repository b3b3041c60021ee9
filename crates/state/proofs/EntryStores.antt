-- A number stored in a field of one entry of a block: it is read there, and every other entry stays.
-- Assumes nothing.
use Prim.Native.Nat.{ℕ, suc, ◌+◌, ◌*◌, ◌^◌, ◌<◌, ◌≤◌}
use mathlib.Core.Path.{◌≡◌, sym, ap, ◌∙◌}
use mathlib.Core.List.{List, ◌++◌, append_assoc}
use mathlib.Core.Logic.{inl, inr}
use native.Mathlib.Decide.{dec_le}
use native.Mathlib.Omega.{arith}
use lib.ListN.{length, get_or, take, drop}
use lib.Seq.{sets-eq, drop-drop, drop_at, get_or-drop, length-take-le}
use Rattle.arith.specs.Digits.{number, digits}
use Rattle.arith.proofs.DigitLaws.{length_digits, number_digits, number_same}
use Rattle.arith.proofs.Stores.{sets_else}
use Rattle.reclaiming.specs.Fields.{width_of, offset_of, read_field}
use Rattle.reclaiming.specs.StateBlock.{floor_part, worst_part, entry_fields, period_field, worst_field, work_field, remaining_field, fixed_field, unspent_field}
use Rattle.reclaiming.specs.StateBlock.{entry_length, state_length, places}
use Rattle.state.specs.Code.{entry_at, entry_in, field_place, entry_stored}

-- a number stored in field k of entry i
module _ (b : List ℕ) (k i x : ℕ) (within : offset_of entry_fields k + width_of entry_fields k ≤ entry_length) where
  abbrev new : List ℕ
  new = digits 256 (width_of entry_fields k) x

  abbrev after : List ℕ
  after = entry_stored b k i x

  -- is read there, where it fits
  pub stored_there :
      i < places → length b ≡ state_length → x < 256 ^ width_of entry_fields k → read_field entry_fields k (drop (entry_at i) after) ≡ x
  stored_there h size fits =
      let at : ℕ = field_place k + entry_length * i in
      let rest : List ℕ = drop (at + length new) b in
      let place : entry_at i + offset_of entry_fields k ≡ at = omega arith in
      ap (λ (l : List ℕ). number 256 (width_of entry_fields k) l)
      (drop-drop (offset_of entry_fields k) (entry_at i) after
      ∙ ap (λ (n : ℕ). drop n after) place
      ∙ ap (λ (l : List ℕ). drop at l)
      (sets-eq new b at (omega (arith, length_digits 256 (width_of entry_fields k) x)) ∙ append_assoc (take at b) new rest)
      ∙ drop_at (take at b) (new ++ rest) at (length-take-le at b (omega arith)))
      ∙ number_digits 256 (width_of entry_fields k) x rest (omega arith) fits

  -- and entry j is another one
  module _ (j : ℕ) (other : j ≡ i → ⊥) where
    byte_else : (p : ℕ) → p < entry_length → get_or after (entry_at j + p) 0 ≡ get_or b (entry_at j + p) 0
    byte_else p h =
        sets_else new b (field_place k + entry_length * i) (entry_at j + p)
        (elim (dec_le (suc j) i) [
          | yes l ↦ inl (omega arith)
          | no l ↦ inr (omega (arith, length_digits 256 (width_of entry_fields k) x, other))
        ])

    field_else : (f : ℕ) → offset_of entry_fields f + width_of entry_fields f ≤ entry_length →
        read_field entry_fields f (drop (entry_at j) after) ≡ read_field entry_fields f (drop (entry_at j) b)
    field_else f h =
        let at : ℕ = offset_of entry_fields f in
        number_same 256 (width_of entry_fields f) (drop at (drop (entry_at j) after)) (drop at (drop (entry_at j) b))
        (λ q l.
        get_or-drop at (drop (entry_at j) after) q 0
        ∙ get_or-drop (entry_at j) after (at + q) 0
        ∙ byte_else (at + q) (omega arith)
        ∙ sym (get_or-drop at (drop (entry_at j) b) q 0 ∙ get_or-drop (entry_at j) b (at + q) 0))

    pub stored_else : entry_in after j ≡ entry_in b j
    stored_else = λ m. record {
      period = field_else period_field (omega arith) m;
      floor = floor_part (field_else worst_field (omega arith) m);
      worst = worst_part (field_else worst_field (omega arith) m);
      work = field_else work_field (omega arith) m;
      remaining = field_else remaining_field (omega arith) m;
      fixed = field_else fixed_field (omega arith) m;
      unspent = field_else unspent_field (omega arith) m;
    }
