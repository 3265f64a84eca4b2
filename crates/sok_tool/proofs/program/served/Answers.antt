use Rattle.std.proofs.Common.{◌∙◌, ap, subst}
use Rattle.sqlite.specs.Held.{state}
use Rattle.sok_files.specs.Files.{files_by}
use Rattle.sok_tool.specs.Databases.{databases_by}
use Rattle.sok_words.specs.declared.job.Job.TheVariants as job
use Rattle.sok_words.specs.Forms.{Means}
use Rattle.sok_tool.proofs.Plain.{draw_word, offer_word, replay_word}
use Rattle.sok_tool.proofs.Serving.{Serves-add, Serves-check, Serves-draw, Serves-export, Serves-offer, Serves-offers, Serves-overview, Serves-prove, Serves-replay, Serves-settle, Serves-show, Serves-solve, word_serves}
use Rattle.sok_tool.proofs.program.served.Goals as goal

pub returns-in-Replay : goal.returns-in-Replay
returns-in-Replay g c = λ form plain means.
    let rt = c.args.rt.now in
    let files = files_by g.F.Output.Write.contents (g.F.Folder.files rt) in
    let databases = databases_by (state g.S.Store) (g.F.Databases.databases rt) in
    let s = c.in-Replay in
    word_serves files databases _ _ _ form _ _ _ _ (replay_word form s.file s.n s.text _ plain (subst (Means form) s.is means) c.as_str-in-Replay-2.ensures.value)
    c.replay.ensures c.ended-in-Replay.ensures (λ does. Serves-replay files databases _ _ _ s.file _ c.as_str-in-Replay.ensures.value s.n s.text _
    c.as_str-in-Replay-2.ensures.value form (subst (Means form) s.is means) (c.replay.result, does, c.ended-in-Replay.ensures))

pub returns-in-Draw : goal.returns-in-Draw
returns-in-Draw g c = λ form plain means.
    let rt = c.args.rt.now in
    let files = files_by g.F.Output.Write.contents (g.F.Folder.files rt) in
    let databases = databases_by (state g.S.Store) (g.F.Databases.databases rt) in
    let s = c.in-Draw in
    word_serves files databases _ _ _ form _ _ _ _ (draw_word form s.file s.n s.text _ plain (subst (Means form) s.is means) c.as_str-in-Draw-2.ensures.value)
    c.draw.ensures c.ended-in-Draw.ensures (λ does. Serves-draw files databases _ _ _ s.file _ c.as_str-in-Draw.ensures.value s.n s.text _
    c.as_str-in-Draw-2.ensures.value form (subst (Means form) s.is means) (c.draw.result, does, c.ended-in-Draw.ensures))

pub returns-in-Check : goal.returns-in-Check
returns-in-Check g c = λ form plain means.
    let rt = c.args.rt.now in
    let files = files_by g.F.Output.Write.contents (g.F.Folder.files rt) in
    let databases = databases_by (state g.S.Store) (g.F.Databases.databases rt) in
    let s = c.in-Check in
    Serves-check files databases _ _ _ s.file _ c.as_str-in-Check.ensures.value s.n s.cert _ c.as_str-in-Check-2.ensures.value form (subst (Means form) s.is means)
    (c.check.result, c.check.ensures, c.ended-in-Check.ensures)

pub returns-in-Solve : goal.returns-in-Solve
returns-in-Solve g c = λ form plain means.
    let rt = c.args.rt.now in
    let files = files_by g.F.Output.Write.contents (g.F.Folder.files rt) in
    let databases = databases_by (state g.S.Store) (g.F.Databases.databases rt) in
    let s = c.in-Solve in
    Serves-solve files databases _ _ _ s.file _ c.as_str-in-Solve.ensures.value form s.n s.below s.limit s.bound s.cert (subst (Means form) s.is means)
    (c.solve.result, c.solve.ensures, c.ended-in-Solve.ensures)

pub returns-in-Add : goal.returns-in-Add
returns-in-Add g c = λ form plain means.
    let rt = c.args.rt.now in
    let files = files_by g.F.Output.Write.contents (g.F.Folder.files rt) in
    let databases = databases_by (state g.S.Store) (g.F.Databases.databases rt) in
    let s = c.in-Add in
    Serves-add files databases _ _ _ s.db _ c.as_str-in-Add.ensures.value s.file _ c.as_str-in-Add-2.ensures.value form (subst (Means form) s.is means)
    (c.add.result, c.add.ensures, c.ended-in-Add.ensures)

pub returns-in-Offers : goal.returns-in-Offers
returns-in-Offers g c = λ form plain means.
    let rt = c.args.rt.now in
    let files = files_by g.F.Output.Write.contents (g.F.Folder.files rt) in
    let databases = databases_by (state g.S.Store) (g.F.Databases.databases rt) in
    let s = c.in-Offers in
    Serves-offers files databases _ _ _ s.db _ c.as_str-in-Offers.ensures.value s.file _ c.as_str-in-Offers-2.ensures.value form (subst (Means form) s.is means)
    (c.offers.result, c.offers.ensures, c.ended-in-Offers.ensures)

pub returns-in-Offer : goal.returns-in-Offer
returns-in-Offer g c = λ form plain means.
    let rt = c.args.rt.now in
    let files = files_by g.F.Output.Write.contents (g.F.Folder.files rt) in
    let databases = databases_by (state g.S.Store) (g.F.Databases.databases rt) in
    let s = c.in-Offer in
    word_serves files databases _ _ _ form _ _ _ _ (offer_word form s.db s.id s.text _ plain (subst (Means form) s.is means) c.as_str-in-Offer-2.ensures.value)
    c.offer.ensures c.ended-in-Offer.ensures (λ does. Serves-offer files databases _ _ _ s.db _ c.as_str-in-Offer.ensures.value s.text _
    c.as_str-in-Offer-2.ensures.value form s.id plain (subst (Means form) s.is means) (c.offer.result, does, c.ended-in-Offer.ensures))

pub returns-in-Prove : goal.returns-in-Prove
returns-in-Prove g c = λ form plain means.
    let rt = c.args.rt.now in
    let files = files_by g.F.Output.Write.contents (g.F.Folder.files rt) in
    let databases = databases_by (state g.S.Store) (g.F.Databases.databases rt) in
    let s = c.in-Prove in
    Serves-prove files databases _ _ _ s.db _ c.as_str-in-Prove.ensures.value s.cert _ c.as_str-in-Prove-2.ensures.value form s.id plain (subst (Means form) s.is means)
    (c.prove.result, c.prove.ensures, c.ended-in-Prove.ensures)

pub returns-in-Settle : goal.returns-in-Settle
returns-in-Settle g c = λ form plain means.
    let rt = c.args.rt.now in
    let files = files_by g.F.Output.Write.contents (g.F.Folder.files rt) in
    let databases = databases_by (state g.S.Store) (g.F.Databases.databases rt) in
    let s = c.in-Settle in
    Serves-settle files databases _ _ _ s.db _ c.as_str-in-Settle.ensures.value form s.limit s.first s.last s.folder plain (subst (Means form) s.is means)
    (c.settle.result, c.settle.ensures, c.ended-in-Settle.ensures)

-- with an id
pub returns-in-Some : goal.returns-in-Some
returns-in-Some g c = λ form plain means.
    let rt = c.args.rt.now in
    let files = files_by g.F.Output.Write.contents (g.F.Folder.files rt) in
    let databases = databases_by (state g.S.Store) (g.F.Databases.databases rt) in
    let s = c.in-Show in
    Serves-show files databases _ _ _ s.db _ c.as_str-in-Some.ensures.value form c.in-Some.id plain
    (subst (Means form) (s.is ∙ ap (λ o. job.Show s.db o) c.in-Some.is) means) (c.show.result, c.show.ensures, c.ended-in-Some.ensures)

-- and without one
pub returns-in-Show : goal.returns-in-Show
returns-in-Show g c = λ form plain means.
    let rt = c.args.rt.now in
    let files = files_by g.F.Output.Write.contents (g.F.Folder.files rt) in
    let databases = databases_by (state g.S.Store) (g.F.Databases.databases rt) in
    let s = c.in-Show in
    Serves-overview files databases _ _ _ s.db _ c.as_str-in-None.ensures.value form
    (subst (Means form) (s.is ∙ ap (λ o. job.Show s.db o) c.in-None.is) means) (c.tell.result, c.tell.ensures, c.ended-in-None.ensures)

-- the last command, export
pub returns : goal.returns
returns g c = λ form plain means.
    let rt = c.args.rt.now in
    let files = files_by g.F.Output.Write.contents (g.F.Folder.files rt) in
    let databases = databases_by (state g.S.Store) (g.F.Databases.databases rt) in
    let s = c.in-Export in
    Serves-export files databases _ _ _ s.db _ c.as_str-in-Export.ensures.value form s.solutions (subst (Means form) s.is means)
    (c.tell-in-Export.result, c.tell-in-Export.ensures, c.ended-in-Export.ensures)
