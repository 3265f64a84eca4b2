use Rattle.std.proofs.Common.{ℕ, ℤ, ◌≡◌, ◌∙◌, FitsSigned, List, ap, pos, subst, sym, w64}
use Rattle.std.proofs.lemmas.Int.{to_z-of_z}
use Rattle.sqlite.specs.Held.{state}
use Rattle.sok_text.specs.Lurd.{Spells}
use Rattle.sok_keep.proofs.Ids.{passed}
use Rattle.sok_settle.specs.Offers.{line_id, line_text, word_id}
use Rattle.sok_settle.proofs.Telling.{same_goes, unread_goes}
use Rattle.sok_settle.proofs.Words.{word_fits}
use Rattle.sok_settle.proofs.offers.offer_line.Goals as goal

id_fits : (word : List ℕ) (id : ℤ) → id ≡ pos (word_id word) → FitsSigned w64 id
id_fits word id is = subst (FitsSigned w64) (sym is) (word_fits word)

pub returns-in-Ok : goal.returns-in-Ok
returns-in-Ok g c =
    let id = to_z-of_z w64 c.id_of-id.result (id_fits c.cut_word.result.0.now c.id_of-id.result c.id_of-id.ensures) ∙ c.id_of-id.ensures ∙ ap (λ w. pos (word_id w)) c.cut_word.ensures.word in
    let spelled = subst (Spells c.cut_word.result.1.now) (sym c.deref.ensures.value) c.in-Ok.ensures in
    same_goes (passed c.id_of-id.result) (line_id c.args.line.now) c.cut_word.result.1.now (line_text c.args.line.now) (state g.S.Store c.args.book.now)
    (state g.S.Store c.offer_letters.new.book) (g.W.Write.contents c.args.out.now) (g.W.Write.contents c.offer_letters.new.out) c.offer_letters.result
    id c.cut_word.ensures.text (c.offer_letters.ensures c.cut_word.result.1.now spelled)

pub returns-in-Err : goal.returns-in-Err
returns-in-Err g c =
    let id = to_z-of_z w64 c.id_of-id.result (id_fits c.cut_word.result.0.now c.id_of-id.result c.id_of-id.ensures) ∙ c.id_of-id.ensures ∙ ap (λ w. pos (word_id w)) c.cut_word.ensures.word in
    same_goes (passed c.id_of-id.result) (line_id c.args.line.now) c.cut_word.result.1.now (line_text c.args.line.now) (state g.S.Store c.args.book.now)
    (state g.S.Store c.args.book.now) (g.W.Write.contents c.args.out.now) (g.W.Write.contents c.tell_unread.new.out) c.tell_unread.result
    id c.cut_word.ensures.text
    (unread_goes (passed c.id_of-id.result) c.cut_word.result.1.now (state g.S.Store c.args.book.now) (g.W.Write.contents c.args.out.now)
    (g.W.Write.contents c.tell_unread.new.out) c.in-Err.fault c.tell_unread.result c.in-Err.ensures c.tell_unread.ensures)
