use Prim.Native.Nat.{◌<◌}
use mathlib.Core.Path.{sym, subst, ap, ◌∙◌}
use Rattle.plan.specs.declared.Rest.{Rest}
use Rattle.plan.specs.Times.{time_of}
use Rattle.times.proofs.task_time.Goals as goal

pub returns : goal.returns
returns c =
    c.time_of.ensures ∙ ap (time_of c.args.speed) c.whole_of.ensures

pub time_of-requires : goal.time_of-requires
time_of-requires c =
    let whole = sym c.whole_of.ensures in (
      c.requires.0,
      c.requires.1,
      subst (λ (r : Rest). r.fixed < 256) whole c.requires.2,
      subst (λ (r : Rest). r.work < 16777216) whole c.requires.3,
    )
