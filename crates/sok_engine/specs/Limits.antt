-- How long inputs may be.
use Rattle.std.specs.Prelude.{ℕ}

-- the greatest length of an input other than a certificate, in bytes
abbrev pub input_limit : ℕ
input_limit = 16777216

-- the greatest length of a certificate, in bytes
abbrev pub cert_limit : ℕ
cert_limit = 268435456
