use Rattle.std.proofs.Common.{◌≡◌, take}
use Rattle.std.specs.Str.Parse.{AllDigits, digits_value}
use Rattle.sok_entry.specs.Text.{IsSmall}
use Rattle.sok_entry.proofs.number.front_value.Given as goal

abbrev pub invariant-loop-count : goal.invariant-loop-count
invariant-loop-count l = record {
  digits : AllDigits 10 (take l.count l.text);
  value : l.number ≡ digits_value 10 (take l.count l.text);
  small : IsSmall l.number;
}
