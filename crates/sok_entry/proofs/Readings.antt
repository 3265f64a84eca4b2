-- A text has one reading.
use Rattle.std.proofs.Common.{ℕ, ◌≡◌, ◌-◌, List, [], ◌∷◌, ◌++◌, All, length, get_or, drop, sym, ap, ◌∙◌, refl, subst, arith}
use Rattle.std.proofs.lemmas.Fmt.{decimal_injective}
use Rattle.std.specs.List.{flat_map}
use Rattle.std.specs.Str.Lines.{lines}
use Rattle.sok_entry.specs.declared.claim.Claim.{Claim}
use Rattle.sok_entry.specs.declared.claim.Claim.TheVariants.{Pushes, Unsolvable}
use Rattle.sok_entry.specs.declared.entry.Entry.{Entry}
use Rattle.sok_entry.specs.declared.fault.CertFault.{CertFault}
use Rattle.sok_entry.specs.declared.version.Version.{Version}
use Rattle.sok_entry.specs.declared.version.Version.TheVariants.{One, Two}
use Rattle.sok_entry.specs.Text.{header, last_line, claim_line, entry_line, entry_lines, FitsClaim, FitsEntry, FitsVersion, SpellsCertificate}
use Rattle.sok_entry.specs.Reading.{IsWrong, StopsAt, GoesWrong, at_header, behind_header, ended_lines}
use Rattle.sok_entry.proofs.Openings.{equal, fronts, last_is_no_entry, longer, shorter}
use Rattle.sok_entry.proofs.Wrongs.{IsWrong-one, no_lines, nothing_behind, nothing_wrong, wrong_entry, wrong_nothing}

same_claim : (c d : Claim) → FitsClaim c → FitsClaim d → claim_line c ≡ claim_line d → c ≡ d
unfolding claim_line
same_claim (Pushes k) (Pushes m) fits_k fits_m same = ap Pushes (decimal_injective k m (omega arith) (omega arith) (ap (drop 7) same))
same_claim (Pushes k) Unsolvable fits_c fits_d same = absurd (omega (arith, ap (λ line. get_or line 0 0) same))
same_claim Unsolvable (Pushes m) fits_c fits_d same = absurd (omega (arith, ap (λ line. get_or line 0 0) same))
same_claim Unsolvable Unsolvable fits_c fits_d same = refl

same_version : (v w : Version) → header v ≡ header w → v ≡ w
unfolding header
same_version One One same = refl
same_version One Two same = absurd (omega (arith, ap (λ line. get_or line 20 0) same))
same_version Two One same = absurd (omega (arith, ap (λ line. get_or line 20 0) same))
same_version Two Two same = refl

-- where one reading goes on with an entry, both find the end of the text
wrong_longer : (version : Version) (ended n m : ℕ) (rs ss : List (List ℕ)) (f g : CertFault) (e : Entry) (more : List Entry) → FitsEntry e → FitsVersion version e
    → rs ≡ entry_lines e ++ (flat_map entry_lines more ++ ss)
    → IsWrong version ended n rs f → IsWrong version ended m ss g → f ≡ g
wrong_longer version ended n m rs ss f g e more fits allowed is of_f of_g =
    let first = wrong_entry version ended n rs (flat_map entry_lines more ++ ss) f e fits allowed is of_f in
    first.0 ∙ sym (wrong_nothing version ended m ss g (nothing_behind (flat_map entry_lines more) ss first.1) of_g)

StopsAt-one : (version : Version) (ended : ℕ) (ls : List (List ℕ)) (f g : CertFault) → StopsAt version ended ls f → StopsAt version ended ls g → f ≡ g
StopsAt-one version ended ls f g a b =
    let count : List Entry → ℕ = λ es. length (flat_map entry_lines es) in
    elim (fronts version a.entries b.entries a.rest b.rest a.fit b.fit a.allowed b.allowed (sym a.has_lines ∙ b.has_lines)) [
      | longer e more fits allowed is ↦
          wrong_longer version ended (count a.entries) (count b.entries) a.rest b.rest f g e more fits allowed is a.wrong b.wrong
      | shorter e more fits allowed is ↦
          sym (wrong_longer version ended (count b.entries) (count a.entries) b.rest a.rest g f e more fits allowed is b.wrong a.wrong)
      | equal entries rest ↦
          IsWrong-one version ended (count b.entries) b.rest f g (subst (λ ms. IsWrong version ended (count b.entries) ms f) rest
          (subst (λ es. IsWrong version ended (count es) a.rest f) entries a.wrong)) b.wrong
    ]

-- lines that end with `end` go nowhere wrong
StopsAt-end : (version : Version) (ended : ℕ) (ls : List (List ℕ)) (es : List Entry) (fault : CertFault) → All FitsEntry es → All (FitsVersion version) es
    → ls ≡ flat_map entry_lines es ++ last_line ∷ [] → StopsAt version ended ls fault → ⊥
StopsAt-end version ended ls es fault fit allowed same stops =
    let count = length (flat_map entry_lines stops.entries) in
    elim (fronts version es stops.entries (last_line ∷ []) stops.rest fit stops.fit allowed stops.allowed (sym same ∙ stops.has_lines)) [
      | longer e more fits in_version is ↦ let first : last_line ≡ entry_line e = cc in last_is_no_entry e fits first
      | shorter e more fits in_version is ↦
          no_lines (flat_map entry_lines more) last_line []
          (wrong_entry version ended count stops.rest (flat_map entry_lines more ++ last_line ∷ []) fault e fits in_version is stops.wrong).1
      | equal entries rest ↦ nothing_wrong version ended count stops.rest fault (sym rest) stops.wrong
    ]

entries_one : (version : Version) (es fs : List Entry) → All FitsEntry es → All FitsEntry fs → All (FitsVersion version) es → All (FitsVersion version) fs
    → flat_map entry_lines es ++ last_line ∷ [] ≡ flat_map entry_lines fs ++ last_line ∷ [] → es ≡ fs
entries_one version es fs fit_e fit_f in_e in_f same = elim (fronts version es fs (last_line ∷ []) (last_line ∷ []) fit_e fit_f in_e in_f same) [
  | longer e more fits allowed is ↦ let first : last_line ≡ entry_line e = cc in absurd (last_is_no_entry e fits first)
  | shorter e more fits allowed is ↦ let first : last_line ≡ entry_line e = cc in absurd (last_is_no_entry e fits first)
  | equal entries rest ↦ entries
]

-- behind the same header stand the same claim and the same lines
front_one : (text : List ℕ) (v w : Version) (c d : Claim) (ls ms : List (List ℕ)) → lines text ≡ header v ∷ claim_line c ∷ ls
    → lines text ≡ header w ∷ claim_line d ∷ ms → (v ≡ w) × (claim_line c ≡ claim_line d) × (ls ≡ ms)
front_one text v w c d ls ms of_c of_d =
    let all : header v ∷ claim_line c ∷ ls ≡ header w ∷ claim_line d ∷ ms = sym of_c ∙ of_d in
    let headers : header v ≡ header w = cc in
    let claims : claim_line c ≡ claim_line d = cc in
    (same_version v w headers, claims, ap (drop 2) all)

pub Spells-one : (text : List ℕ) (c d : Claim) (es fs : List Entry) → SpellsCertificate text c es → SpellsCertificate text d fs → (c ≡ d) × (es ≡ fs)
Spells-one text c d es fs a b =
    let same = front_one text a.version b.version c d (flat_map entry_lines es ++ last_line ∷ []) (flat_map entry_lines fs ++ last_line ∷ []) a.has_lines
    b.has_lines in
    let allowed = subst (λ v. All (FitsVersion v) es) same.0 a.allowed in
    (same_claim c d a.fits.claim_fits b.fits.claim_fits same.1, entries_one b.version es fs a.fits.entries_fit b.fits.entries_fit allowed b.allowed same.2)

pub GoesWrong-one : (text : List ℕ) (f g : CertFault) → GoesWrong text f → GoesWrong text g → f ≡ g
GoesWrong-one text f g (at_header lacks is_f) (at_header also is_g) = is_f ∙ sym is_g
GoesWrong-one text f g (at_header lacks is_f) (behind_header version claim ls fits same stops) = absurd (lacks version claim ls fits same)
GoesWrong-one text f g (behind_header version claim ls fits same stops) (at_header lacks is_g) = absurd (lacks version claim ls fits same)
GoesWrong-one text f g (behind_header v c ls fits_c same_c stops_f) (behind_header w d ms fits_d same_d stops_g) =
    let same = front_one text v w c d ls ms same_c same_d in
    let moved = subst (λ l. StopsAt w (ended_lines text - 2) l f) same.2 (subst (λ x. StopsAt x (ended_lines text - 2) ls f) same.0 stops_f) in
    StopsAt-one w (ended_lines text - 2) ms f g moved stops_g

pub Spells-GoesWrong : (text : List ℕ) (claim : Claim) (es : List Entry) (fault : CertFault) → SpellsCertificate text claim es → GoesWrong text fault → ⊥
Spells-GoesWrong text claim es fault spells (at_header lacks is_fault) =
    lacks spells.version claim (flat_map entry_lines es ++ last_line ∷ []) spells.fits.claim_fits spells.has_lines
Spells-GoesWrong text claim es fault spells (behind_header version other_claim ls fits same stops) =
    let front = front_one text version spells.version other_claim claim ls (flat_map entry_lines es ++ last_line ∷ []) same spells.has_lines in
    let allowed = subst (λ v. All (FitsVersion v) es) (sym front.0) spells.allowed in
    StopsAt-end version (ended_lines text - 2) ls es fault spells.fits.entries_fit allowed front.2 stops
