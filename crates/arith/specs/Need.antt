-- Division rounded up: how many of a size cover an amount. 01 rounds ticks, bits and bytes so.
-- Assumes nothing.
use Rattle.std.specs.Prelude.{ℕ, ◌+◌, ◌-◌, ◌/◌}

-- the least number of the size's multiples that covers the amount
unfoldable pub need : ℕ → ℕ → ℕ
need size amount = (amount + (size - 1)) / size
