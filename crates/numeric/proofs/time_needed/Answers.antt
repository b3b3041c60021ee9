use Prim.Native.Nat.{ℕ, ◌+◌, ◌-◌, ◌/◌, ◌<◌}
use mathlib.Core.Path.{◌≡◌, ap, ◌∙◌}
use native.Mathlib.Nat.{mod-add-div', mod-lt}
use native.Mathlib.Omega.{arith}
use Rattle.arith.specs.Need.{need}
use Rattle.arith.proofs.Needs.{need_is}
use Rattle.numeric.proofs.time_needed.Goals as goal

-- with speed less one added, the quotient covers the work with less than a tick to spare
rounds-up : (s w : ℕ) → 0 < s → (w + (s - 1)) / s ≡ need s w
rounds-up s w h =
    let whole = mod-add-div' (w + (s - 1)) s in
    need_is s w ((w + (s - 1)) / s) h (omega (arith, whole, mod-lt (w + (s - 1)) h)) (omega (arith, whole))

pub returns : goal.returns
returns c =
    let speed = c.args.speed in
    let again : speed - 1 + 1 ≡ speed = omega (arith, c.requires.0) in
    ap (λ (s : ℕ). (c.args.work + (speed - 1)) / s) again ∙ rounds-up speed c.args.work c.requires.0
