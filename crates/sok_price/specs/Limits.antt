-- Limits of prices, and of how far a search raises them.
use Rattle.std.specs.Prelude.{ℕ}

-- the highest price in an answer
abbrev pub price_limit : ℕ
price_limit = 1000000

-- the highest floor from which a row of a kept matching is exchanged: above it the matching is made anew
abbrev pub kept_floor_limit : ℕ
kept_floor_limit = 268435456

-- the highest floor of a search
abbrev pub floor_limit : ℕ
floor_limit = 536870912

-- the highest price between two searches
abbrev pub search_price_limit : ℕ
search_price_limit = 1073741824

-- how far the price of a tree's root may rise
abbrev pub rise_limit : ℕ
rise_limit = 2147483648
