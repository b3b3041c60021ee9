use Prim.Native.Nat.{ℕ, ◌+◌, ◌*◌, ◌<◌}
use mathlib.Core.Path.{◌≡◌, refl, sym, ap, ◌∙◌}
use mathlib.Core.List.{List, [], ◌∷◌}
use native.Mathlib.Omega.{arith}
use borrow.Author.Tests.{eqb-true, eqb-false}
use lib.ListN.{length, get_or}
use Rattle.transcript.specs.Listing.{pass_of}
use Rattle.listing.proofs.run_lines.Going.{no_speeds, no_tasks, book_at, pair_at, going_first, going_again, going_even, going_odd}
use Rattle.listing.proofs.run_lines.pass_lines.Goals.{After-from}
use Rattle.listing.proofs.run_lines.pass_lines.Goals as goal

pub loop-first-init : goal.loop-first-init
loop-first-init c =
    going_first c.args.passes.now c.args.state.now c.args.out.now c.args.from

-- the two bytes of a pass
pair : (c : After-from) →
    get_or c.as_chunks.result.0.now c.loop-first.first-index []
    ≡ get_or c.args.passes.now (2 * c.loop-first.first-index) 0 ∷ get_or c.args.passes.now (2 * c.loop-first.first-index + 1) 0 ∷ []
pair c = pair_at c.args.passes.now c.loop-first.first-index c.as_chunks.ensures.front c.as_chunks.ensures.front_len c.loop-first-test.true

-- the second byte of a pass is one
low_byte : (c : After-from) → c.from.result < 256
low_byte c =
    omega (arith, c.from.ensures, ap (λ (l : List ℕ). get_or l 1 0) (pair c), c.type_inv.passes (2 * c.loop-first.first-index + 1))

pub clock_after-clock-requires : goal.clock_after-clock-requires
clock_after-clock-requires c =
    omega (arith, low_byte (goal.at.clock_after-clock-requires c).After-from, c.loop-first.invariant.early)

pub loop-first-preserved : goal.loop-first-preserved
loop-first-preserved c =
    going_again c.loop-first.invariant record {
      more = omega (arith, c.as_chunks.ensures.front_len);
      is_high = c.from-high.ensures ∙ ap (λ (l : List ℕ). get_or l 0 0) (pair (goal.at.loop-first-preserved c).After-from);
      is_low = c.from.ensures ∙ ap (λ (l : List ℕ). get_or l 1 0) (pair (goal.at.loop-first-preserved c).After-from);
      small = low_byte (goal.at.loop-first-preserved c).After-from;
      replied = c.pass-reply.ensures.value;
      stored = c.pass-reply.ensures.state_after;
      kept = c.pass-reply.auto.state;
      moved =
          c.clock_after-clock.ensures.by_index no_speeds no_tasks (book_at c.loop-first.clock) (pass_of c.from-high.result c.from.result) refl refl;
      later = c.clock_after-clock.ensures.upper_bound;
    } c.reply_line-at.ensures c.reply_line-at.auto.out

pub returns-then-not-is_empty : goal.returns-then-not-is_empty
returns-then-not-is_empty c =
    let all = going_odd c.loop-first.invariant c.requires.0
    (omega (arith, c.as_chunks.ensures.back_len, eqb-false (length c.as_chunks.result.1.now) 0 (sym c.is_empty.ensures ∙ c.if-not-is_empty.true)))
    (omega (arith, c.as_chunks.ensures.front_len)) c.refused_line.ensures in record {
      by_index = all.0;
      state_after = all.1;
    }

pub returns : goal.returns
returns c =
    let all = going_even c.loop-first.invariant c.requires.0
    (omega (arith, c.as_chunks.ensures.front_len, c.as_chunks.ensures.back_len, eqb-true (length c.as_chunks.result.1.now) 0 (sym c.is_empty.ensures ∙ c.if-not-is_empty.false))) in record {
      by_index = all.0;
      state_after = all.1;
    }
