-- What a pass answers and leaves is what the definitions say.
-- Assumes nothing.
use Prim.Native.Nat.{ℕ, zero, suc}
use mathlib.Core.Path.{◌≡◌, refl, sym, ap, subst, ◌∙◌}
use mathlib.Core.Bool.{Bool, true}
use mathlib.Core.List.{List, ◌++◌, append-nil}
use lib.ListN.{length, drop}
use lib.Seq.{drop-length}
use Rattle.arith.specs.Choice.{pick, both}
use Rattle.arith.specs.Asking.{first_no}
use Rattle.plan.specs.Counted.{refused}
use Rattle.plan.specs.Answers.{stored_by}
use Rattle.orders.specs.declared.Choice.{Choice}
use Rattle.reclaiming.specs.Allotments.{timing}
use Rattle.reclaiming.specs.Replies.{Reply, replied_by}
use Rattle.reclaiming.specs.Passes.{pass_questions}
use Rattle.reclaiming.specs.StateBlock.{encode, decode, plan_in}
use Rattle.reclaiming.specs.States.{passed_state, view_of}
use Rattle.reclaiming.specs.Questions.{sound_at}
use Rattle.reclaiming.specs.Calls.{pass_number, pass_order, pass_reply, pass_bytes}
use Rattle.state.specs.Code.{timing_in}
use Rattle.levels.specs.Code.{loaded}
use Rattle.state.specs.Tables.{Owns}
use Rattle.reclaiming.proofs.StateCodec.{length-encode}
use Rattle.soundness.proofs.SoundFacts.{sound_size}
use Rattle.passing.proofs.accepted.StepLaws.{Passing, letting, passed_few}

-- a reply that is a refusal or an order, and the bytes that go with it
replied_no : (n : ℕ) (order : Reply) → (n ≡ 0 → ⊥) → refused n ≡ replied_by n order
replied_no zero order h = absurd (h refl)
replied_no (suc n) order h = refl

stored_no : (n : ℕ) (bytes buffer : List ℕ) → (n ≡ 0 → ⊥) → buffer ≡ stored_by n bytes buffer
stored_no zero bytes buffer h = absurd (h refl)
stored_no (suc n) bytes buffer h = refl

-- bytes stored over as many are all there is
stored_all : (bytes buffer : List ℕ) → length bytes ≡ length buffer → bytes ≡ stored_by 0 bytes buffer
stored_all bytes buffer e =
    sym (append-nil bytes) ∙ ap (λ (l : List ℕ). bytes ++ l) (sym (ap (λ (k : ℕ). drop k buffer) e ∙ drop-length buffer))

-- the number of a pass at a table of speeds, by whether its block is sound there
module _ (speeds bytes : List ℕ) (d : ℕ) (finished : Bool) where
  abbrev numbered : Bool → ℕ
  numbered b = pick b (first_no (pass_questions speeds (timing speeds (plan_in (decode bytes))) (view_of (decode bytes)) d finished)) 10

  pub number_is :
      sound_at speeds bytes ≡ true →
      (n : ℕ) →
      n ≡ first_no (pass_questions speeds (timing speeds (plan_in (decode bytes))) (view_of (decode bytes)) d finished) →
      n ≡ numbered (sound_at speeds bytes)
  number_is ok n e = e ∙ ap numbered (sym ok)

  -- the bytes after a pass
  abbrev after : List ℕ
  after = encode (passed_state speeds (timing_in speeds bytes) (decode bytes) d finished)

  -- what a pass answers and leaves at that table
  abbrev pub Passes : Reply → List ℕ → Type 0
  Passes r m =
      (r ≡ replied_by (numbered (sound_at speeds bytes)) (pass_order speeds (decode bytes) d finished))
      × (m ≡ stored_by (numbered (sound_at speeds bytes)) after bytes)

  -- a refusal, and what it leaves
  pub refuses :
      (n : ℕ) →
      n ≡ numbered (sound_at speeds bytes) →
      (n ≡ 0 → ⊥) →
      Passes (refused n) bytes
  refuses n e h = (
    replied_no n (pass_order speeds (decode bytes) d finished) h ∙ ap (λ (k : ℕ). replied_by k (pass_order speeds (decode bytes) d finished)) e,
    stored_no n after bytes h ∙ ap (λ (k : ℕ). stored_by k after bytes) e,
  )

-- an order, and the bytes that it leaves
pub accepts :
    {speeds bytes keys : List ℕ} {highest next d : ℕ} {finished : Bool} {c : Choice} →
    Passing speeds bytes keys highest next d finished c →
    (r : Reply) (l : List ℕ) →
    r ≡ pass_order speeds (decode bytes) d finished →
    l ≡ encode (passed_state speeds (timing_in speeds bytes) (decode bytes) d finished) →
    Passes speeds bytes d finished r l
accepts {speeds} {bytes} {keys} {highest} {next} {d} {finished} k r l a b =
    let ok : sound_at speeds bytes ≡ true = k.good.sound in
    let none : 0 ≡ numbered speeds bytes d finished (sound_at speeds bytes) = number_is speeds bytes d finished ok 0 (sym k.clear) in
    let same : length (after speeds bytes d finished) ≡ length bytes =
    length-encode (passed_state speeds (timing_in speeds bytes) (decode bytes) d finished) (passed_few (letting k)) ∙ sym (sound_size speeds k.rising bytes ok) in (
      a ∙ ap (λ (n : ℕ). replied_by n (pass_order speeds (decode bytes) d finished)) none,
      b ∙ stored_all (after speeds bytes d finished) bytes same ∙ ap (λ (n : ℕ). stored_by n (after speeds bytes d finished) bytes) none,
    )

-- what a pass answers and leaves, by the call's own definitions
abbrev pub Answers : List ℕ → ℕ → Bool → Reply → List ℕ → Type 0
Answers bytes d finished r m = (r ≡ pass_reply bytes d finished) × (m ≡ pass_bytes bytes d finished)

-- at the table that its block owns it is that of the call
pub over_own :
    {bytes held : List ℕ} {levels : ℕ} →
    Owns bytes held levels →
    (d : ℕ) (finished : Bool) (r : Reply) (m : List ℕ) →
    Passes (loaded held levels) bytes d finished r m →
    Answers bytes d finished r m
over_own {bytes} {held} {levels} k d finished r m h =
    let speeds : List ℕ = (decode bytes).speeds in
    let own : Passes speeds bytes d finished r m = subst (λ (l : List ℕ). Passes l bytes d finished r m) k.is h in
    let same : numbered speeds bytes d finished (sound_at speeds bytes) ≡ pass_number bytes d finished =
    sym (ap (λ (t : Bool). numbered speeds bytes d finished (both t (sound_at speeds bytes))) k.good) in (
      own.0 ∙ ap (λ (n : ℕ). replied_by n (pass_order speeds (decode bytes) d finished)) same,
      own.1 ∙ ap (λ (n : ℕ). stored_by n (after speeds bytes d finished) bytes) same,
    )
