use Rattle.std.proofs.Common.{◌≡◌, ◌∙◌, ℤ, pos, Option, Some, None, IfSome, ap, arith, codes, option_map, refl, unwrap_or}
use Rattle.std.proofs.lemmas.Int.{ints, to_z-of_z}
use mir.Val.{of_z, to_z}
use mir.Syntax.{w64}
use Rattle.clap.specs.Words.{Text}
use Rattle.sok_words.specs.Forms.{IsId, from_of, id_value, settle, to_of}
use Rattle.sok_words.specs.Rows.{from_text}
use Rattle.sok_words.proofs.Forms.{another}
use Rattle.sok_words.proofs.Getters.{id_read}
use Rattle.sok_words.proofs.reading.settle_of.Goals as goal

first_read : (from : Option Text) (first : ℤ) → IsId (from_text from) → first ≡ id_value (from_text from) → to_z w64 (of_z w64 first) ≡ from_of from
first_read None first is e = id_read (codes "1") first is e
first_read (Some id) first is e = id_read id first is e

last_read : (to : Option Text) (last : ℤ) → IfSome to IsId → last ≡ unwrap_or (option_map id_value to) (pos 9223372036854775807)
    → to_z w64 (of_z w64 last) ≡ to_of to
last_read None last is e = ap (λ z. to_z w64 (of_z w64 z)) e ∙ to_z-of_z w64 (pos 9223372036854775807) (omega (arith, ints))
last_read (Some id) last is e = id_read id last is e

pub returns : goal.returns
returns c (settle db limit from to certs) has = (
  c.in_ok-db.ensures db has.1,
  c.in_ok-limit.ensures _ _ has.2,
  first_read from c.in_ok-from.from has.3.0 (c.in_ok-from.ensures (from_text from) has.3),
  last_read to c.unwrap_or-to.result has.4.0 (c.unwrap_or-to.ensures ∙ ap (λ o. unwrap_or o (pos 9223372036854775807)) (c.optional_id_of.ensures to has.4)),
  c.in_ok-folder.ensures certs has.5,
)
returns c _ has = absurd (another _ _ has.0 refl refl)
