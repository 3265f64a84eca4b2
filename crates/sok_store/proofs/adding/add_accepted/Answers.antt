use Rattle.std.proofs.Common.{◌≡◌, ◌∙◌, sym, inl, refl, subst, arith, option_map}
use Rattle.sqlite.specs.Held.{state}
use Rattle.sqlite.specs.State.{HasCleanDisk}
use Rattle.sok_rules.specs.Levels.{IsLevel}
use Rattle.sok_text.specs.Canonical.{level_text}
use Rattle.sok_book.specs.Commands.{Adds}
use Rattle.sok_store.specs.Calls.{StoresChange, id_number, kept_if_given}
use Rattle.sok_store.proofs.Calls.{rests_holds, rests_stops, stops_same}
use Rattle.sok_store.proofs.Added.{is_there, level_runs}
use Rattle.sok_store.proofs.Wide.{wide}
use Rattle.sok_store.proofs.Caused.{few_leaves, told}
use Rattle.sok_store.specs.Rows.{leaves_of}
use Rattle.sok_store.proofs.adding.add_accepted.Goals as goal

pub returns-in-Err-clause-runs : goal.returns-in-Err-clause-runs
returns-in-Err-clause-runs g c = record {
  done = tt;
  refused = λ clean book holds. (inl (inl refl), holds);
  stop = stops_same (state g.S.Store c.args.conn.now) _;
  cause = λ database. absurd cc;
}

pub returns-in-Ok-Some-clause-runs : goal.returns-in-Ok-Some-clause-runs
returns-in-Ok-Some-clause-runs g c =
    let old = state g.S.Store c.args.conn.now in
    let mid = state g.S.Store c.find.new.conn in
    let title = kept_if_given (option_map (λ bytes. bytes.now) c.args.title) in
    let level : IsLevel c.args.level.now = record { proper = c.rows-rows.ensures.proper; trimmed = c.rows-rows.ensures.trimmed } in
    let text : c.as_str-text.result.now ≡ level_text c.args.level.now = c.as_str-text.ensures.value ∙ c.in-Ok.ensures in
    record {
      done = subst (λ z. StoresChange old mid (λ book after. Adds book c.args.level.now title (id_number z) after))
          (sym (wide c.from.result c.in-Ok-Some.id (rw c.from.ensures at c.from.type_inv) c.from.ensures))
          (is_there old mid c.args.level.now c.as_str-text.result.now text level c.in-Ok-Some.id title (rw c.in-Ok-Some.field-0-is at c.in-Ok-Some.ensures.found));
      refused = tt;
      stop = rests_stops old mid c.find.ensures.rests _;
      cause = tt;
    }

pub returns-in-Ok-None-clause-runs : goal.returns-in-Ok-None-clause-runs
returns-in-Ok-None-clause-runs g c =
    let old = state g.S.Store c.args.conn.now in
    let mid = state g.S.Store c.find.new.conn in
    let new = state g.S.Store c.add_new.new.conn in
    let early : HasCleanDisk new → HasCleanDisk mid = λ clean. omega (arith, clean, c.add_new.ensures.runs.stop.clean) in
    let level : IsLevel c.args.level.now = record { proper = c.rows-rows.ensures.proper; trimmed = c.rows-rows.ensures.trimmed } in
    let text : c.as_str-text.result.now ≡ level_text c.args.level.now = c.as_str-text.ensures.value ∙ c.in-Ok.ensures in
    level_runs old mid c.args.level.now c.as_str-text.result.now text level (option_map (λ bytes. bytes.now) c.args.title) c.requires
    (rw c.in-Ok-None.field-0-is at c.in-Ok-None.ensures.found) new early c.find.ensures.rests c.add_new.result
    (rw (← c.kept.ensures) c.add_new.ensures.runs)

pub returns-clause-runs : goal.returns-clause-runs
returns-clause-runs g c =
    let old = state g.S.Store c.args.conn.now in
    let mid = state g.S.Store c.find.new.conn in
    record {
      done = tt;
      refused = λ clean book holds. (inl c.fault_of.ensures.outside, rests_holds old mid c.find.ensures.rests clean book holds);
      stop = rests_stops old mid c.find.ensures.rests _;
      cause = told old mid _ c.in-Err-find.error c.fault_of.result c.fault_of.ensures.memory
          (λ clean book holds. c.in-Err-find.ensures.cause clean (leaves_of book) holds.1 (few_leaves book holds.0));
    }
