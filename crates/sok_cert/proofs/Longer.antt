-- What is known of the entries of a list is known of them in a longer list.
use Rattle.std.proofs.Common.{ℕ, ◌≤◌, List, ◌++◌, arith, length}
use Rattle.std.proofs.lemmas.Option.{slice_get_within}
use Rattle.sok_board.specs.Area.{BoardView, boxes_of}
use Rattle.sok_board.proofs.Lists.{slice_get-append}
use Rattle.sok_closed.proofs.Fine.{AreFine-append, IsNew-append}
use Rattle.sok_entry.specs.declared.claim.Claim.{Claim}
use Rattle.sok_entry.specs.declared.entry.Entry.{Entry}
use Rattle.sok_entry.specs.declared.fault.CertFault.{CertFault}
use Rattle.sok_entry.specs.declared.fault.CertFault.TheVariants as fault
use Rattle.sok_cert.specs.Closed.{IsBarredBy, IsPosition, node_of}
use Rattle.sok_cert.specs.Refusals.{IsFaulty, IsRefused, IsRepeated, IsSolved, IsUnreasoned}
use Rattle.sok_cert.specs.Rosters.{IsOwn}

module _ (b : BoardView) (claim : Claim) (entries more : List Entry) where
  faulty-append : (P Q : Entry → Type 0) (i : ℕ) → ((e : Entry) → i ≤ length entries → P e → Q e) → IsFaulty b claim entries i P
      → IsFaulty b claim (entries ++ more) i Q
  faulty-append P Q i to faulty =
      let below = slice_get_within entries i faulty.entry faulty.there in
      let within : i ≤ length entries = omega (arith, below) in
      record {
        entry = faulty.entry;
        there = slice_get-append entries more i faulty.entry faulty.there;
        before = AreFine-append node_of b (length (boxes_of b)) (IsBarredBy b claim) entries more i within faulty.before;
        fault = to faulty.entry within faulty.fault;
      }

  IsRepeated-append : (i : ℕ) (e : Entry) → IsRepeated b entries i e → IsRepeated b (entries ++ more) i e
  IsRepeated-append i e repeated = record {
    position = repeated.position;
    place = repeated.place;
    earlier = repeated.earlier;
    before = repeated.before;
    there = slice_get-append entries more repeated.place repeated.earlier repeated.there;
    same = repeated.same;
  }

  -- the first fault of an entry by itself
  pub IsRefused-append : (f : CertFault) → IsOwn f → IsRefused b claim entries f → IsRefused b claim (entries ++ more) f
  IsRefused-append (fault.BadEntry i) own faulty = faulty-append (λ e. IsPosition b e → ⊥) (λ e. IsPosition b e → ⊥) i (λ e within none. none) faulty
  IsRefused-append (fault.Duplicate i) own faulty =
      faulty-append (IsRepeated b entries i) (IsRepeated b (entries ++ more) i) i (λ e within repeated. IsRepeated-append i e repeated) faulty
  IsRefused-append (fault.SolvedEntry i) own faulty =
      faulty-append (IsSolved b entries i) (IsSolved b (entries ++ more) i) i
      (λ e within solved. record {
        position = solved.position;
        new = IsNew-append node_of b (length (boxes_of b)) (IsBarredBy b claim) entries more i e within solved.new;
        expanded = solved.expanded;
        solved = solved.solved;
      }) faulty
  IsRefused-append (fault.BadReason i) own faulty =
      faulty-append (IsUnreasoned b claim entries i) (IsUnreasoned b claim (entries ++ more) i) i
      (λ e within fails. record {
        position = fails.position;
        new = IsNew-append node_of b (length (boxes_of b)) (IsBarredBy b claim) entries more i e within fails.new;
        barring = fails.barring;
        fails = fails.fails;
      }) faulty
  IsRefused-append fault.Header own refused = absurd own
  IsRefused-append (fault.Line n) own refused = absurd own
  IsRefused-append fault.Truncated own refused = absurd own
  IsRefused-append fault.Start own refused = absurd own
  IsRefused-append (fault.OpenPush i square d) own refused = absurd own
  IsRefused-append fault.Memory own refused = absurd own
