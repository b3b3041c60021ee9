-- The whole listing, at the front of a buffer.
-- Assumes nothing.
use Prim.Native.Nat.{ℕ, ◌-◌, ◌<◌, ◌≤◌}
use mathlib.Core.Bool.{Bool}
use mathlib.Core.Path.{◌≡◌, sym, subst, ap, ◌∙◌}
use mathlib.Core.List.{List, ◌++◌}
use native.Mathlib.Nat.{zero-add}
use native.Mathlib.Omega.{arith}
use borrow.Author.Tests.{le-leb, lt-leb}
use borrow.Author.Rules.{part_to_end}
use lib.ListN.{length, take, drop}
use lib.Seq.{sets-eq, length-sets, length-take-le}
use Rattle.arith.specs.Choice.{pick}
use Rattle.arith.specs.Asking.{number_of}
use Rattle.plan.specs.declared.Judged.{Judged}
use Rattle.plan.specs.Answers.{Verdict, accepted_with, verdict_answer, read_block}
use Rattle.plan.specs.Counted.{refused}
use Rattle.transcript.specs.Listing.{plan_line, refused_line, level_cut, plan_cut, started_lines, judged_lines, read_lines, plan_listing, listing}
use Rattle.text.specs.Stores.{Put}

-- a text at the front of a buffer: its length, every byte, and that it lies within
abbrev pub Front : List ℕ → List ℕ → ℕ → List ℕ → Type 0
Front text before r after =
    (r ≡ length text) × ((after ≡ text ++ drop (length text) before) × ((r ≤ length after) × (r ≡ length (take r after))))

pub front :
    {m r : ℕ} {text whole before after : List ℕ} →
    Put m before 0 text r after →
    m ≤ length before →
    text ≡ whole →
    Front whole before r after
front {m} {r} {text} {whole} {before} {after} p room e =
    let size : r ≡ length text = p.place ∙ zero-add (length text) in
    let long : length after ≡ length before = ap (λ (x : List ℕ). length x) p.bytes ∙ length-sets before 0 text in
    let inside : r ≤ length after = omega (arith, p.near) in
    let bytes : after ≡ text ++ drop (length text) before =
    p.bytes
    ∙ sets-eq text before 0 (omega (arith, p.near))
    ∙ ap (λ (k : ℕ). text ++ drop k before) (zero-add (length text)) in
    subst (λ (t : List ℕ). Front t before r after) e (size, (bytes, (inside, sym (length-take-le r after inside))))

-- an input that is too long
pub over_is : (input : List ℕ) → 65536 < length input → refused_line 17 ≡ listing input
over_is input h =
    let cut : ℕ = level_cut input in
    sym (ap (λ (b : Bool). pick b (plan_listing (take cut input) (drop cut input)) (refused_line 17)) (lt-leb (length input) 65536 h))

-- one that is not, with its level block cut off
pub cut_is :
    (input : List ℕ) {cut : ℕ} →
    length input ≤ 65536 →
    cut ≡ level_cut input →
    plan_listing (take cut input) (take (length input - cut) (drop cut input)) ≡ listing input
cut_is input {cut} few e =
    let at : ℕ = level_cut input in
    ap (λ (l : List ℕ). plan_listing (take cut input) l) (part_to_end input cut)
    ∙ ap (λ (k : ℕ). plan_listing (take k input) (drop k input)) e
    ∙ sym (ap (λ (b : Bool). pick b (plan_listing (take at input) (drop at input)) (refused_line 17)) (le-leb (length input) 65536 few))

-- a plan block and passes: the cut, and what the reader says of the block
pub record Read (levels input : List ℕ) (cut : ℕ) (j : Judged) : Type 0 where
  pub is_cut : cut ≡ plan_cut input
  pub is_read : j ≡ read_block levels (take cut input)

module _ {levels input : List ℕ} {cut : ℕ} {j : Judged} (h : Read levels input cut j) where
  read_is : read_lines levels (take cut input) j (drop cut input) ≡ plan_listing levels input
  read_is =
      ap (λ (x : Judged). read_lines levels (take cut input) x (drop cut input)) h.is_read
      ∙ ap (λ (k : ℕ). read_lines levels (take k input) (read_block levels (take k input)) (drop k input)) h.is_cut

  -- by the reader's verdict
  by_verdict :
      (v : Verdict) → j.verdict ≡ v → judged_lines levels (take cut input) v j.plan.count (drop cut input) ≡ plan_listing levels input
  by_verdict v e =
      sym (ap (λ (x : Verdict). judged_lines levels (take cut input) x j.plan.count (drop cut input)) e) ∙ read_is

  pub refused_is :
      {k n : ℕ} → k ≡ number_of (verdict_answer j.verdict) → j.verdict ≡ refused n → refused_line k ≡ plan_listing levels input
  refused_is {k} {n} a e =
      ap (λ (x : ℕ). refused_line x) (a ∙ ap (λ (v : Verdict). number_of (verdict_answer v)) e) ∙ by_verdict (refused n) e

  pub admitted_is :
      {level span : ℕ} →
      j.verdict ≡ accepted_with level span →
      plan_line j.plan.count level span
      ++ started_lines levels (take cut input) (take (length input - cut) (drop cut input))
      ≡ plan_listing levels input
  admitted_is {level} {span} e =
      ap (λ (l : List ℕ). plan_line j.plan.count level span ++ started_lines levels (take cut input) l) (part_to_end input cut)
      ∙ by_verdict (accepted_with level span) e
