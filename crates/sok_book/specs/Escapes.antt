-- A text whose control characters are seen: each, from U+0000 to U+001F and from U+007F to U+009F, is shown as `\x1b` is, with its code in two hexadecimal digits.
use Rattle.std.specs.Prelude.{ℕ, ◌+◌, ◌/◌, ◌%◌, List, [], ◌∷◌, ◌++◌, Bool, true, false, ◌&&◌, ◌==◌, if◌then◌else◌, nat_le, nat_lt}
use Rattle.std.specs.Char.{is_ascii_control}

abbrev pub hex_digit : ℕ → ℕ
hex_digit n = if nat_lt n 10 then 48 + n else 87 + n

abbrev pub escape : ℕ → List ℕ
escape code = 92 ∷ 120 ∷ hex_digit (code / 16) ∷ hex_digit (code % 16) ∷ []

-- The control characters from U+0080 on have two bytes in UTF-8: this one, the lead, and their code.
abbrev pub lead : ℕ
lead = 194

-- a lead that was held back, if there is one
abbrev pub held_lead : Bool → List ℕ
held_lead true = lead ∷ []
held_lead false = []

-- a byte as it is shown; a lead is held back until the byte after it is known
abbrev pub shown_byte : ℕ → List ℕ
shown_byte c = if c == lead then [] else if is_ascii_control c then escape c else c ∷ []

-- the same where a lead may be held back
abbrev pub shown_behind : Bool → ℕ → List ℕ
shown_behind held c = if held && (nat_le 128 c && nat_le c 159) then escape c else held_lead held ++ shown_byte c

-- a text as it is shown, where a lead may be held back
abbrev pub escaped_behind : Bool → List ℕ → List ℕ
escaped_behind held [] = held_lead held
escaped_behind held (c ∷ text) = shown_behind held c ++ escaped_behind (c == lead) text

abbrev pub escaped : List ℕ → List ℕ
escaped text = escaped_behind false text
