-- How large a search may be.
use Rattle.std.specs.Prelude.{ℕ}

-- the greatest limit
abbrev pub state_limit : ℕ
state_limit = 1000000
