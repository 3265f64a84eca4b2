use Rattle.std.proofs.Common.{arith}
use Rattle.sok_field.proofs.Parts.{put-whole, put-last, put-parted}
use Rattle.sok_field.proofs.spans.put_word.Goals as goal

pub returns-then-shift-eq0 : goal.returns-then-shift-eq0
returns-then-shift-eq0 c = put-whole c.args.words.now c.join.new.rows c.args.word c.args.number c.ranges.word.fits (omega arith) c.join.ensures

pub returns-then-row-words : goal.returns-then-row-words
returns-then-row-words c = put-last c.args.words.now c.join.new.rows c.args.word c.args.number (omega arith) c.requires.fits c.join.ensures

pub returns : goal.returns
returns c =
    put-parted c.args.words.now c.join.new.rows c.join-2.new.rows c.args.word c.args.number c.ranges.word.fits (omega arith) c.join.ensures c.join-2.ensures
