use Prim.Native.Nat.{ℕ}
use mathlib.Core.Path.{◌≡◌, sym, subst, ap, ◌∙◌}
use native.Mathlib.Omega.{arith}
use Rattle.std.specs.declared.result.Result.TheVariants.{Ok}
use Rattle.std.proofs.lemmas.Result.{err_from_is_err_and}
use Rattle.levels.specs.Code.{loaded}
use Rattle.levels.proofs.Tables.{levels_are}
use Rattle.plan.proofs.LevelBlockLaws.{few_levels}
use Rattle.state.proofs.tables.TableLaws.{owned_fine, owned_stored}
use Rattle.arith.specs.Asking.{first_no}
use Rattle.reclaiming.specs.Allotments.{timing}
use Rattle.reclaiming.specs.Passes.{pass_questions}
use Rattle.reclaiming.specs.StateBlock.{decode, plan_in}
use Rattle.reclaiming.specs.States.{view_of}
use Rattle.orders.specs.declared.Choice.{Choice}
use Rattle.soundness.specs.Code.{Good}
use Rattle.soundness.proofs.SoundFacts.{runnable}
use Rattle.reclaiming.proofs.Soundness.{sound_state, sound_clock}
use Rattle.orders.specs.Code.{Runnable}
use Rattle.soundness.proofs.SoundLaws.{tested_good}
use Rattle.passing.specs.Questions.{time_questions}
use Rattle.passing.proofs.questions.QuestionSteps.{none_refused, first_refused, asked_is}
use Rattle.passing.proofs.accepted.StepLaws.{Passing}
use Rattle.passing.proofs.PassLaws.{number_is, refuses, accepts, over_own}
use Rattle.passing.proofs.pass_over.Goals.{After-pass_asked, In-Some}
use Rattle.passing.proofs.pass_over.Goals as goal

-- past the first test the block is sound
good : (c : In-Some) → Good (loaded c.args.table.now.speeds c.args.table.now.levels) c.args.state.now c.in-Some.tested.keys c.in-Some.tested.nominal
good c = tested_good c.args.table.now.known.rising c.in-Some.ensures

-- the first no of the questions, as they are put to the clock, the order that stands and the next arrival
abbrev first : After-pass_asked → ℕ
first c = first_no (time_questions c.new.result.ticks c.standing-c.result c.in-Some.tested.next c.args.d c.args.finished)

asked : (c : After-pass_asked) →
    first c ≡ first_no (pass_questions (loaded c.args.table.now.speeds c.args.table.now.levels) (timing (loaded c.args.table.now.speeds c.args.table.now.levels) (plan_in (decode c.args.state.now))) (view_of (decode c.args.state.now)) c.args.d c.args.finished)
asked c =
    let ticks : ℕ = c.new.result.ticks in
    ap (λ (x : Choice). first_no (time_questions ticks x c.in-Some.tested.next c.args.d c.args.finished)) c.standing-c.ensures
    ∙ asked_is (loaded c.args.table.now.speeds c.args.table.now.levels) (decode c.args.state.now) ticks c.in-Some.tested.next c.args.d c.args.finished (c.new.ensures ∙ c.clock_at.ensures) c.in-Some.ensures.next

passing : (c : After-pass_asked) →
    first c ≡ 0 →
    Passing (loaded c.args.table.now.speeds c.args.table.now.levels) c.args.state.now c.in-Some.tested.keys c.in-Some.tested.nominal c.in-Some.tested.next c.args.d c.args.finished
    c.standing-c.result
passing c none = record {
  rising = c.args.table.now.known.rising;
  few = few_levels (owned_fine c.requires);
  stored = owned_stored c.requires;
  good = tested_good c.args.table.now.known.rising c.in-Some.ensures;
  order = c.standing-c.ensures;
  arrival = c.in-Some.ensures.next;
  clear = sym (asked c) ∙ none;
}

pub standing-c-requires : goal.standing-c-requires
standing-c-requires c =
    let k = good (goal.at.standing-c-requires c).In-Some in record {
      holds = k.holds;
      runnable =
          subst (λ (n : ℕ). Runnable n (decode c.args.state.now)) (levels_are c.args.table.now.known)
          (runnable (loaded c.args.table.now.speeds c.args.table.now.levels) c.args.table.now.known.rising (decode c.args.state.now)
          (sound_state (loaded c.args.table.now.speeds c.args.table.now.levels) c.args.state.now k.sound));
    }

pub pass_asked-requires : goal.pass_asked-requires
pass_asked-requires c =
    omega (
      arith,
      c.new.ensures ∙ c.clock_at.ensures,
      sound_clock (loaded c.args.table.now.speeds c.args.table.now.levels) c.args.state.now (good (goal.at.pass_asked-requires c).In-Some).sound,
    )

-- before that of its length, so that a refused pass which changes a byte is refused here
pub returns-in_err-pass_asked : goal.returns-in_err-pass_asked
returns-in_err-pass_asked c =
    let p = err_from_is_err_and c.from_residual.result c.from_residual.ensures.1 in
    let n : ℕ = c.in_err-pass_asked.field-0.0.number in
    let k = first_refused _ {e = c.in_err-pass_asked.field-0.0} c.in_err-pass_asked.ensures in
    let all = over_own c.requires c.args.d c.args.finished _ _
    (refuses (loaded c.args.table.now.speeds c.args.table.now.levels) c.args.state.now c.args.d c.args.finished n
    (number_is (loaded c.args.table.now.speeds c.args.table.now.levels) c.args.state.now c.args.d c.args.finished c.in-Some.ensures.sound n
    (k.0 ∙ asked (goal.at.returns-in_err-pass_asked c).After-pass_asked))
    k.1) in
    record { value = rw (p.1, p.2) all.0; state_after = all.1 }

pub passed-requires : goal.passed-requires
passed-requires c =
    let k = passing (goal.at.passed-requires c).After-pass_asked (none_refused _ c.in_ok-pass_asked.ensures) in
    record { owns = (c.requires, k.good); c_value = k.order; next_value = k.arrival; finished_value = k.clear }

pub returns : goal.returns
returns c =
    let all = over_own c.requires c.args.d c.args.finished _ _
    (accepts (passing (goal.at.returns c).After-pass_asked (none_refused _ c.in_ok-pass_asked.ensures)) (Ok c.passed.result) c.passed.new.block
    c.passed.ensures.value c.passed.ensures.block_after) in
    record { value = all.0; state_after = all.1 }
