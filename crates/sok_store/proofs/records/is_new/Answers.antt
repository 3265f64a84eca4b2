use Rattle.std.proofs.Common.{◌≡◌, ◌||◌, ◌∙◌, ap, refl, bytes_eq, cond, string_bytes, Bool, true, false}
use Rattle.std.proofs.lemmas.Map.Text.{btree_set_updates_text}
use Rattle.std.specs.BTreeSet.{contains_text}
use Rattle.sok_store.proofs.records.is_new.Goals as goal

cond_or : (test other : Bool) → cond test true other ≡ (test || other)
cond_or true other = refl
cond_or false other = refl

pub returns-clause-texts : goal.returns-clause-texts
returns-clause-texts c other =
    let text = string_bytes c.in_ok-text.text in
    let there = btree_set_updates_text text c.args.texts.now c.insert.new.self true c.in_ok-insert.ensures.updates other in
    let old = contains_text c.args.texts.now other in
    there ∙ cond_or (bytes_eq text other) old ∙ ap (λ bs. bytes_eq bs other || old) c.in_ok-text.ensures
