use Rattle.std.proofs.Common.{◌<◌, inl, length, refl}
use Rattle.std.proofs.lemmas.List.Elements.{All-contains}
use Rattle.sok_state.proofs.Stepped.{gone, moved-back}
use Rattle.sok_search.proofs.push_scratch.is_jammed.Goals as goal

pub shift-requires-clause-from : goal.shift-requires-clause-from
shift-requires-clause-from c =
    let (boxes, after, moved, laid) = c.requires.laid in
    All-contains (λ square. square < length c.args.setting.now.board.now.area) boxes c.args.from moved.exist moved.there

pub shift-requires-clause-to : goal.shift-requires-clause-to
shift-requires-clause-to c = let (boxes, after, moved, laid) = c.requires.laid in moved.within

pub has_jam-jammed-requires-clause-exists : goal.has_jam-jammed-requires-clause-exists
has_jam-jammed-requires-clause-exists c = let (boxes, after, moved, laid) = c.requires.laid in moved.within

pub has_jam-jammed-requires-clause-laid : goal.has_jam-jammed-requires-clause-laid
has_jam-jammed-requires-clause-laid c =
    let (boxes, after, moved, laid) = c.requires.laid in
    (after, c.shift.ensures boxes after laid moved.there moved.free moved.moved)

pub shift-requires-2-clause-from : goal.shift-requires-2-clause-from
shift-requires-2-clause-from c = let (boxes, after, moved, laid) = c.requires.laid in moved.within

pub shift-requires-2-clause-to : goal.shift-requires-2-clause-to
shift-requires-2-clause-to c =
    let (boxes, after, moved, laid) = c.requires.laid in
    All-contains (λ square. square < length c.args.setting.now.board.now.area) boxes c.args.from moved.exist moved.there

pub returns-clause-laid : goal.returns-clause-laid
returns-clause-laid c = λ boxes after moved laid.
    c.shift-2.ensures after boxes (c.shift.ensures boxes after laid moved.there moved.free moved.moved) ((moved.moved c.args.to).1 (inl refl))
    (gone boxes after c.args.from c.args.to moved.there moved.free moved.moved)
    (moved-back boxes after c.args.from c.args.to moved.there moved.free moved.moved)

pub returns-clause-jammed : goal.returns-clause-jammed
returns-clause-jammed c = λ boxes after moved laid.
    c.has_jam-jammed.ensures after (c.shift.ensures boxes after laid moved.there moved.free moved.moved)
