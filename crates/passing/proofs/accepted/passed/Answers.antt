use mathlib.Core.Path.{◌≡◌, sym, ◌∙◌}
use mathlib.Core.Bool.{true, false}
use native.Mathlib.Omega.{arith}
use Rattle.std.specs.declared.result.Result.TheVariants.{Ok}
use Rattle.levels.specs.Code.{loaded}
use Rattle.plan.proofs.LevelBlockLaws.{few_levels}
use Rattle.state.proofs.tables.TableLaws.{owned_fine, owned_stored}
use Rattle.reclaiming.specs.Passes.{chooses_anew}
use Rattle.reclaiming.specs.StateBlock.{decode}
use Rattle.reclaiming.specs.States.{view_of}
use Rattle.state.specs.Code.{timing_in}
use Rattle.passing.proofs.accepted.StepLaws.{Passing, After, reaching, stepping, hold_enough, after_holds, after_some, after_clock, after_below, after_again, after_enough}
use Rattle.passing.proofs.accepted.StepLaws.{after_keyed, after_kept, after_next, kept_bytes, kept_reply, chosen_bytes, chosen_reply_lem}
use Rattle.passing.proofs.accepted.passed.Goals.{After-move_on, Else-not-anew, Start, Then-not-anew}
use Rattle.passing.proofs.accepted.passed.Goals as goal

passing : (c : Start) → Passing (loaded c.args.table.now.speeds c.args.table.now.levels) c.args.block.now c.args.keys.now c.args.highest c.args.next c.args.d c.args.finished c.args.c
passing c = record {
  rising = c.requires.owns.0.table.rising;
  few = few_levels (owned_fine c.requires.owns.0);
  stored = owned_stored c.requires.owns.0;
  good = c.requires.owns.1;
  order = c.requires.c_value;
  arrival = c.requires.next_value;
  clear = c.requires.finished_value;
}

moved : (c : After-move_on) →
    Passing (loaded c.args.table.now.speeds c.args.table.now.levels) c.args.block.now c.args.keys.now c.args.highest c.args.next c.args.d c.args.finished c.args.c →
    After (loaded c.args.table.now.speeds c.args.table.now.levels) c.args.block.now c.args.keys.now c.args.highest c.args.next c.args.d c.args.finished c.args.c
    c.move_on.new.block
moved c passing = record { passing = passing; moved = c.move_on.ensures }

stays : (c : Then-not-anew) →
    chooses_anew (timing_in (loaded c.args.table.now.speeds c.args.table.now.levels) c.args.block.now) (view_of (decode c.args.block.now)) c.args.d c.args.finished ≡ false
stays c = sym c.chooses_anew-anew.ensures ∙ c.if-not-anew.true

anew : (c : Else-not-anew) →
    chooses_anew (timing_in (loaded c.args.table.now.speeds c.args.table.now.levels) c.args.block.now) (view_of (decode c.args.block.now)) c.args.d c.args.finished ≡ true
anew c = sym c.chooses_anew-anew.ensures ∙ c.if-not-anew.false

pub chooses_anew-anew-requires : goal.chooses_anew-anew-requires
chooses_anew-anew-requires c =
    let k = reaching (passing (goal.at.chooses_anew-anew-requires c).Start) in record {
      sound = (k.ok, k.some, k.within);
      next_value = k.arrival;
    }

pub move_on-requires : goal.move_on-requires
move_on-requires c =
    let k = passing (goal.at.move_on-requires c).Start in record {
      step = stepping k;
      c_value = k.order;
      next_value = k.arrival;
    }

pub overflow_sub-hold_of : goal.overflow_sub-hold_of
overflow_sub-hold_of c = omega (arith, hold_enough (passing (goal.at.overflow_sub-hold_of c).Start) c.hold_of.result c.hold_of.ensures)

pub returns-then-not-anew : goal.returns-then-not-anew
returns-then-not-anew c =
    let k = moved (goal.at.returns-then-not-anew c).After-move_on (passing (goal.at.returns-then-not-anew c).Start) in record {
      value = kept_reply k (stays (goal.at.returns-then-not-anew c).Then-not-anew) c.hold_of.result c.hold_of.ensures (Ok c.order_of.result) c.order_of.ensures;
      block_after = kept_bytes k (stays (goal.at.returns-then-not-anew c).Then-not-anew);
    }

pub overflow_sub-next : goal.overflow_sub-next
overflow_sub-next c = omega (arith, (reaching (passing (goal.at.overflow_sub-next c).Start)).within)

pub choose_until-requires : goal.choose_until-requires
choose_until-requires c =
    let k = moved (goal.at.choose_until-requires c).After-move_on (passing (goal.at.choose_until-requires c).Start) in record {
      holds = (after_holds k, after_again k);
      enough = after_enough k (anew (goal.at.choose_until-requires c).Else-not-anew);
      keyed = after_kept k c.if-d-next.true;
      next_value = after_next k c.if-d-next.true;
    }

pub returns-then-d-next : goal.returns-then-d-next
returns-then-d-next c =
    let k = moved (goal.at.returns-then-d-next c).After-move_on (passing (goal.at.returns-then-d-next c).Start) in record {
      value = chosen_reply_lem k (anew (goal.at.returns-then-d-next c).Else-not-anew) (Ok c.choose_until.result) c.choose_until.ensures.value;
      block_after = chosen_bytes k (anew (goal.at.returns-then-d-next c).Else-not-anew) c.choose_until.new.block c.choose_until.ensures.block_after;
    }

pub count_at-requires : goal.count_at-requires
count_at-requires c = after_holds (moved (goal.at.count_at-requires c).After-move_on (passing (goal.at.count_at-requires c).Start))

pub clock_at-requires : goal.clock_at-requires
clock_at-requires c = (after_holds (moved (goal.at.clock_at-requires c).After-move_on (passing (goal.at.clock_at-requires c).Start))).size

pub renewed-u-requires : goal.renewed-u-requires
renewed-u-requires c =
    let k = moved (goal.at.renewed-u-requires c).After-move_on (passing (goal.at.renewed-u-requires c).Start) in record {
      count_le_places = (omega (arith, c.count_at.ensures, (after_holds k).few), (after_holds k).size, after_clock k c.clock_at.result c.clock_at.ensures);
      by_index = after_below k c.count_at.result c.count_at.ensures;
    }

pub choose-requires : goal.choose-requires
choose-requires c =
    let k = moved (goal.at.choose-requires c).After-move_on (passing (goal.at.choose-requires c).Start) in record {
      holds = (after_holds k, after_some k, after_again k);
      enough = after_enough k (anew (goal.at.choose-requires c).Else-not-anew);
      keyed = after_keyed k c.count_at.result c.clock_at.result c.count_at.ensures c.clock_at.ensures
          c.renewed-u.result c.renewed-u.ensures;
    }

pub returns : goal.returns
returns c =
    let k = moved (goal.at.returns c).After-move_on (passing (goal.at.returns c).Start) in record {
      value = chosen_reply_lem k (anew (goal.at.returns c).Else-not-anew) (Ok c.choose.result) c.choose.ensures.value;
      block_after = chosen_bytes k (anew (goal.at.returns c).Else-not-anew) c.choose.new.block c.choose.ensures.block_after;
    }
