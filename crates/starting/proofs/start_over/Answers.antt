use Rattle.std.proofs.Common.{◌≡◌, rules}
use Rattle.std.specs.declared.result.Result.TheVariants.{Ok}
use Rattle.std.proofs.lemmas.Result.{err_from_is_err_and}
use Rattle.levels.specs.Code.{loaded}
use Rattle.plan.specs.declared.Admission.{Admission}
use Rattle.plan.specs.Blocks.{tasks_in}
use Rattle.plan.proofs.JudgedLaws.{Admitted}
use Rattle.starting.proofs.StartLaws.{read_number, start_unread, start_read, start_left}
use Rattle.starting.proofs.start_over.Goals.{After-read_paired-j}
use Rattle.starting.proofs.start_over.Goals as goal

admitted : (c : After-read_paired-j) {a : Admission} →
    c.read_paired-j.result.verdict ≡ Ok a →
    Admitted (loaded c.args.table.now.speeds c.args.table.now.levels) (read_number (loaded c.args.table.now.speeds c.args.table.now.levels) c.args.block.now c.args.pairs.now) (tasks_in c.args.block.now)
    c.read_paired-j.result a.nominal a.hyperperiod
admitted c told = record { judged = c.read_paired-j.ensures; told = told }

-- first, so that a wrong answer is refused here; the verdict is found and not cited, so that a right one is not
pub returns-in_err-admission : goal.returns-in_err-admission
returns-in_err-admission c =
    let p = err_from_is_err_and c.from_residual.result c.from_residual.ensures.1 in
    let all = start_unread (loaded c.args.table.now.speeds c.args.table.now.levels) c.args.block.now c.args.pairs.now c.args.state.now {n = c.in_err-admission.field-0.0.number} c.read_paired-j.ensures (search (rules, c.in_err-admission.was)) in
    record { value = rw (p.1, p.2) all.0; state_after = all.1 }

pub started-requires : goal.started-requires
started-requires c =
    let all = start_read (loaded c.args.table.now.speeds c.args.table.now.levels) c.args.block.now c.args.pairs.now (admitted (goal.at.started-requires c).After-read_paired-j {a = c.in_ok-admission.admission} (search (rules, c.in_ok-admission.was))) in
    record { padded = c.requires; p_value = all.0; highest_value = all.1 }

pub returns : goal.returns
returns c =
    let all = start_left (loaded c.args.table.now.speeds c.args.table.now.levels) c.args.block.now c.args.pairs.now (admitted (goal.at.returns c).After-read_paired-j {a = c.in_ok-admission.admission} (search (rules, c.in_ok-admission.was))) c.args.state.now (c.started.ensures.value, c.started.ensures.state_after) in
    record { value = all.0; state_after = all.1 }
