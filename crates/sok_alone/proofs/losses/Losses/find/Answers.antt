use Rattle.std.proofs.Common.{◌≡◌, ◌∙◌, inl, sym, ap, subst, List, [], ◌∷◌, All, IfNone, IfSome, Some, arith, length, slice_get}
use Rattle.std.proofs.lemmas.List.{length_push}
use Rattle.std.proofs.lemmas.List.Elements.{All-push}
use Rattle.sok_region.specs.Regions.{IsRegion}
use Rattle.sok_board.proofs.Lists.{slice_get-append, slice_get-push}
use Rattle.sok_state.specs.declared.key.Key.{Key}
use Rattle.sok_state.specs.Keys.{IsKey, key_position}
use Rattle.sok_bar.specs.Patterns.{AreClosedAlone}
use Rattle.sok_alone.specs.declared.losses.Loss.{Loss}
use Rattle.sok_alone.specs.GivenUp.{HasEnded}
use Rattle.sok_alone.specs.Losses.{IsLoss, KeepsPlaces, loss_limit, losses_of}
use Rattle.sok_alone.specs.Meeting.{AreClosedWithin}
use Rattle.sok_alone.proofs.Numbering.{are-numbered-kept, lives-numbered, numbered-zero}
use Rattle.sok_alone.proofs.losses.Losses.find.Goals as goal

pub returns-then-branch-clause-number : goal.returns-then-branch-clause-number
returns-then-branch-clause-number c =
    numbered-zero c.args.setting.now.board.now (losses_of c.args.self.now) c.args.key.now (inl (c.in_ok-are_soon_solved.ensures.solved c.if-branch.true))

pub returns-in_default-clause-number : goal.returns-in_default-clause-number
returns-in_default-clause-number c =
    let b = c.args.setting.now.board.now in
    let old = c.args.self.now in
    let ended = subst (λ o. IfNone o (HasEnded b old.asked (key_position b c.args.key.now) loss_limit)) c.in_default.is c.in_ok-found.ensures.none in
    numbered-zero b (losses_of old) c.args.key.now (ended (lives-numbered b (losses_of old) old.asked c.requires.losses.numbered))

pub returns-clause-more : goal.returns-clause-more
returns-clause-more c =
    let b = c.args.setting.now.board.now in
    let key = c.args.key.now in
    let inner = c.in-Some.inner in
    let region = c.in_ok-region.region in
    let copied = sym c.in_ok-key.ensures in
    let loss : Loss = record { key = c.in_ok-key.key; region = region; inner = inner } in
    let within : AreClosedWithin b key.least key.boxes loss_limit inner =
    subst (λ o. IfSome o (AreClosedWithin b key.least key.boxes loss_limit)) c.in-Some.is c.in_ok-found.ensures.closed in
    let is : IsLoss b loss = record {
      state = subst (IsKey b) copied c.requires.state;
      region = subst (λ (k : Key). IsRegion b k.boxes k.least region) copied c.in_ok-region.ensures.region;
      closed = subst (λ (k : Key). AreClosedAlone b k.least k.boxes inner) copied within.closed;
      few = within.few;
      fit = within.fit;
    } in
    let old = c.args.self.now in
    let new = c.push.new.self.items in
    let kept : KeepsPlaces (losses_of old) new = λ place one there. subst (λ (losses : List Loss). slice_get losses place ≡ Some one) (sym c.in_ok-push.ensures.items)
    (slice_get-append (losses_of old) (loss ∷ []) place one there) in
    record {
      losses = record {
        room = c.requires.losses.room;
        each = subst (All (IsLoss b)) (sym c.in_ok-push.ensures.items) (All-push (IsLoss b) (losses_of old) loss c.requires.losses.each is);
        numbered = are-numbered-kept b (losses_of old) new old.asked kept c.requires.losses.numbered;
        workspace = c.in_ok-found.ensures.workspace;
      };
      kept = kept;
    }

pub returns-clause-number : goal.returns-clause-number
returns-clause-number c =
    let losses = losses_of c.args.self.now in
    let key = c.in_ok-key.key in
    let loss : Loss = record { key = key; region = c.in_ok-region.region; inner = c.in-Some.inner } in
    let count = length_push losses loss in
    let longer = ap length c.in_ok-push.ensures.items in
    record {
      given_up = λ zero. absurd (omega (arith, zero, count, longer));
      lost = λ place more.
          let last : length losses ≡ place = omega (arith, more, count, longer) in
          record {
            loss = loss;
            there = subst (λ n. slice_get c.push.new.self.items n ≡ Some loss) last
                (ap (λ (all : List Loss). slice_get all (length losses)) c.in_ok-push.ensures.items ∙ slice_get-push losses loss);
            same = c.in_ok-key.ensures;
          };
    }
