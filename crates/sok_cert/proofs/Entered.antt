-- One entry more in the roll.
use Rattle.std.proofs.Common.{ℕ, ◌≡◌, ◌∙◌, sym, subst, List, [], ◌∷◌, ◌++◌, Option, Some, None, is_some, true, true≢false, arith, Contains, length}
use Rattle.std.specs.Map.{keys_of}
use Rattle.sok_board.specs.Area.{BoardView, IsAccepted, boxes_of}
use Rattle.sok_board.proofs.Lists.{slice_get-push, slice_get-append}
use Rattle.sok_state.specs.Tables.{IsAt}
use Rattle.sok_closed.specs.declared.placing.Located.{Located}
use Rattle.sok_closed.specs.Lookup.{Rolled}
use Rattle.sok_closed.proofs.Fine.{AreEntered-more, IsNew-append, fine-before, new-behind, seen-behind}
use Rattle.sok_entry.specs.declared.claim.Claim.{Claim}
use Rattle.sok_entry.specs.declared.entry.Entry.{Entry}
use Rattle.sok_entry.specs.declared.fault.CertFault.{CertFault}
use Rattle.sok_entry.specs.declared.fault.CertFault.TheVariants as fault
use Rattle.sok_cert.specs.declared.judging.Finding.{Finding}
use Rattle.sok_cert.specs.declared.judging.Finding.TheVariants.{Fine, Solved, Unreasoned}
use Rattle.sok_cert.specs.Closed.{IsBarredBy, IsPosition, is_expanded, node_of}
use Rattle.sok_cert.specs.Judging.{IsFinding, IsLocated, fault_of}
use Rattle.sok_cert.specs.Refusals.{IsFaulty, IsNew, IsRepeated, IsSolved, IsUnreasoned}
use Rattle.sok_cert.specs.Rosters.{AreEntered, TellsEntries}
use Rattle.sok_cert.proofs.Longer.{IsRefused-append}

-- ---- behind entries that are fine

module _ (b : BoardView) (claim : Claim) (entries : List Entry) (roll : Rolled) (accepted : IsAccepted b) (known : AreEntered b claim entries roll) (e : Entry) where
  abbrev longer : List Entry
  longer = entries ++ e ∷ []

  abbrev count : ℕ
  count = length (boxes_of b)

  abbrev IsBarred : Entry → Type 0
  IsBarred f = IsBarredBy b claim f

  -- its fault, at its place
  faulty : (P : ℕ → Entry → Type 0) (place : ℕ) → place ≡ length roll.marks → P (length entries) e → IsFaulty b claim longer place (P place)
  faulty P place is cause =
      let last : length entries ≡ place = sym (is ∙ known.rolled.as_many) in
      subst (λ n. IsFaulty b claim longer n (P n)) last
      (record { entry = e; there = slice_get-push entries e; before = fine-before node_of b count IsBarred entries roll accepted known e; fault = cause })

  pub tells-misplaced : (after : Rolled) (place : ℕ) → place ≡ length roll.marks → (IsPosition b e → ⊥)
      → TellsEntries b claim longer after (Some (fault.BadEntry place))
  tells-misplaced after place is none = (tt, faulty (λ i one. IsPosition b one → ⊥) place is none)

  module _ (found : Located) (located : IsLocated b e found) where
    pub tells-repeated : (after : Rolled) (place : ℕ) → place ≡ length roll.marks → (at : ℕ) → IsAt roll.entries found.key at
        → TellsEntries b claim longer after (Some (fault.Duplicate place))
    tells-repeated after place is at there =
        let seen = seen-behind node_of b count IsBarred entries roll accepted known e found at located there in (
          tt,
          faulty (IsRepeated b longer) place is (record {
            position = located.position;
            place = seen.place;
            earlier = seen.earlier;
            before = seen.before;
            there = slice_get-append entries (e ∷ []) seen.place seen.earlier seen.there;
            same = seen.same;
          }),
        )

    module _ (absent : Contains (keys_of roll.entries) found.key → ⊥) where
      new-here : IsNew b longer (length entries) e
      new-here = IsNew-append node_of b count IsBarred entries (e ∷ []) (length entries) e (omega arith)
          (new-behind node_of b count IsBarred entries roll accepted known e found located absent)

      tells-solved : (after : Rolled) (place : ℕ) → place ≡ length roll.marks → IsFinding b claim e Solved
          → TellsEntries b claim longer after (Some (fault.SolvedEntry place))
      tells-solved after place is (expanded, solved) = (
        tt,
        faulty (IsSolved b longer) place is
            (record { position = located.position; new = new-here; expanded = expanded; solved = solved }),
      )

      tells-unreasoned : (after : Rolled) (place : ℕ) → place ≡ length roll.marks → IsFinding b claim e Unreasoned
          → TellsEntries b claim longer after (Some (fault.BadReason place))
      tells-unreasoned after place is (barring, fails) = (
        tt,
        faulty (IsUnreasoned b claim longer) place is
            (record { position = located.position; new = new-here; barring = barring; fails = fails }),
      )

      tells-fine : (after : Rolled) → IsFinding b claim e Fine → after.entries ≡ roll.entries ++ (found.key, e.depth) ∷ []
          → after.marks ≡ roll.marks ++ is_expanded e.reason ∷ [] → TellsEntries b claim longer after None
      tells-fine after reasoned entries_are marks_are =
          AreEntered-more node_of b count IsBarred entries roll accepted known e found located absent after reasoned entries_are marks_are

      -- whichever was found
      pub tells-found : (after : Rolled) (place : ℕ) → place ≡ length roll.marks → (finding : Finding) → IsFinding b claim e finding
          → after.entries ≡ roll.entries ++ (found.key, e.depth) ∷ [] → after.marks ≡ roll.marks ++ is_expanded e.reason ∷ []
          → TellsEntries b claim longer after (fault_of finding place)
      tells-found after place is Fine reasoned entries_are marks_are = tells-fine after reasoned entries_are marks_are
      tells-found after place is Solved told entries_are marks_are = tells-solved after place is told
      tells-found after place is Unreasoned told entries_are marks_are = tells-unreasoned after place is told

-- behind the first fault nothing changes
pub tells-behind : (b : BoardView) (claim : Claim) (entries more : List Entry) (roll : Rolled) (found : Option CertFault) → is_some found ≡ true
    → TellsEntries b claim entries roll found → TellsEntries b claim (entries ++ more) roll found
tells-behind b claim entries more roll None none told = absurd (true≢false (sym none))
tells-behind b claim entries more roll (Some f) some (own, refused) = (own, IsRefused-append b claim entries more f own refused)
