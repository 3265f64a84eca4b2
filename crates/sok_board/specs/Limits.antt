-- How large an accepted level may be.
use Rattle.std.specs.Prelude.{ℕ}

-- the maximum number of squares in an area
abbrev pub square_limit : ℕ
square_limit = 4096

-- the maximum number of boxes in an area
abbrev pub box_limit : ℕ
box_limit = 128
