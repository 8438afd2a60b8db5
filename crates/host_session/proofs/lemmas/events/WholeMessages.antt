-- A message that was answered, or told that the device failed.
use Rattle.std.proofs.Common.{◌≡◌, ◌≢◌, ⊎_elim, inl, inr, ℕ, true, false, [], Option, Some, None, IsSome, refl, sym}
use Rattle.std.proofs.Common.{List, subst, ◌∙◌, ap, arith}
use Rattle.std.specs.Prelude.{option_to_list, is_some, if◌then◌else◌}
use Rattle.d64_image.specs.History.{History, Failed}
use Rattle.host_session.specs.Held.{HeldOnly}
use Rattle.host_session.proofs.lemmas.Held.{weaker, at_end}
use Rattle.request_cards.specs.declared.reply.Reply.{Reply}
use Rattle.request_cards.specs.declared.reply.Reply.TheVariants.{Cut}
use Rattle.request_cards.specs.Requests.{Ask}
use Rattle.request_cards.specs.Ledgers.{reply_in}
use Rattle.request_cards.specs.Reading.{request_of}
use Rattle.host_session.proofs.lemmas.events.Parts.{after_whole, failed_out, whole_counts}
use Rattle.host_session.specs.events.Counted.{answer}
use Rattle.host_session.specs.events.Events.{Message, uncut}
use Rattle.host_session.specs.events.OneEvent.{EndsFailed, GoesOn, IsEvent, IsInEvent}
use Rattle.host_session.specs.events.Quiet.{AsksNothing, IsLeftAlone, LeavesAlone}
use Rattle.host_session.specs.events.Within.{IsWithin, IsWithinMost, SparesTheDisk}
use Rattle.host_session.specs.session.Handled.{IsHandled}
use Rattle.host_session.specs.session.Standing.{View}
use Rattle.host_session.specs.session.Handling.{IsBeforeOrAfter, IsMedia, after_of, media}
use Rattle.host_session.specs.shop.Shop.{IsSettled, IsShop, Shop, start_of, with_state}

not_at_once : (m : Message) → m.cut_after ≡ None → m.cut_after ≢ Some 0
not_at_once m none zero = let e = sym none ∙ zero in cc

-- MEDIA is told of a request alone
media_some : (o : Option Ask) (r : Reply) → r ≡ media o → IsMedia r → IsSome o
media_some None r is says = let e = sym is ∙ says.2 in cc
media_some (Some a) r is says = refl

module _ {D : Type 0} (h : History D) where
  on_the_way : (s : Shop) (m : Message) (a b : D) → m.cut_after ≡ None → HeldOnly h a b (IsBeforeOrAfter s m.bytes)
      → HeldOnly h a b (IsInEvent s m)
  on_the_way s m a b none held = weaker h a b (IsBeforeOrAfter s m.bytes) (IsInEvent s m)
      (λ i x. ⊎_elim (λ l. inl l) (λ r. inr (not_at_once m none, r)) x) held

  -- the device itself, where power goes in no write
  left : (s : Shop) (m : Message) (a b : D) → m.cut_after ≡ None → (AsksNothing s m → b ≡ a) → LeavesAlone h s m a b
  left s m a b none alone = λ asks. subst (λ (o : Option ℕ). IsLeftAlone h o a b) (sym none) (alone asks)

  pub answered : (s : Shop) (m : Message) (a b : D) (reply : Reply) → m.cut_after ≡ None
      → HeldOnly h a b (IsBeforeOrAfter s m.bytes) → (AsksNothing s m → b ≡ a) → h.failures b ≡ h.failures a
      → reply ≡ reply_in (start_of s) s.state (request_of m.bytes) → IsSettled (h.image b) (after_of s m.bytes)
      → IsEvent h s m a b (GoesOn h s m reply b)
  answered s m a b reply none held alone same told settled = record {
    failed = false;
    counted = option_to_list (request_of m.bytes);
    is = whole_counts s.top s.state (request_of m.bytes) m.cut_after false (not_at_once m none);
    blame = λ e. cc;
    later = omega (arith, same);
    unfailed = λ _ _. same;
    moments = on_the_way s m a b none held;
    quiet = left s m a b none alone;
    ends = record {
      told = told ∙ sym
          (ap (λ (o : Option ℕ). if is_some o then Cut else reply_in (start_of s) s.state (request_of m.bytes)) none);
      answered = λ e. refl;
      settled = subst (λ state. IsSettled (h.image b) (with_state s state))
          (sym (after_whole (start_of s) s.state (request_of m.bytes))) settled;
    };
  }

  pub told_media : (s : Shop) (m : Message) (a b : D) (reply : Reply) → m.cut_after ≡ None
      → HeldOnly h a b (IsBeforeOrAfter s m.bytes) → (AsksNothing s m → b ≡ a) → Failed h a b
      → reply ≡ media (request_of m.bytes) → IsMedia reply
      → IsEvent h s m a b (EndsFailed h s m reply b)
  told_media s m a b reply none held alone failed told says =
      let is : reply ≡ answer (start_of s) s.state m true = told
      ∙ sym (ap (λ (o : Option ℕ). if is_some o then Cut else media (request_of m.bytes)) none) in
      let some : m.cut_after ≡ None → IsSome (request_of m.bytes) =
      λ e. media_some (request_of m.bytes) reply told says in
      ⊎_elim
      (λ before. record {
        failed = true;
        counted = [];
        is = failed_out s.top s.state (request_of m.bytes) m.cut_after;
        blame = λ e. failed;
        later = failed.later;
        unfailed = λ _ e. cc;
        moments = on_the_way s m a b none held;
        quiet = left s m a b none alone;
        ends = record { told = is; asked = some; is_failed = refl; shop = before };
      })
      (λ after. record {
        failed = true;
        counted = option_to_list (request_of m.bytes);
        is = whole_counts s.top s.state (request_of m.bytes) m.cut_after true (not_at_once m none);
        blame = λ e. failed;
        later = failed.later;
        unfailed = λ _ e. cc;
        moments = on_the_way s m a b none held;
        quiet = left s m a b none alone;
        ends = record {
          told = is;
          asked = some;
          is_failed = refl;
          shop = subst (λ state. IsShop (h.image b) (with_state s state))
              (sym (after_whole (start_of s) s.state (request_of m.bytes))) after;
        };
      })
      (at_end h a b (IsBeforeOrAfter s m.bytes) held)

-- a message without a reset, as an open session handled it
module _ {D : Type 0} (h : History D) (x y : View D) (bytes : List ℕ) (reply : Reply) (r : IsHandled h x y bytes reply)
  where
    pub whole_done : (s : Shop) → IsSettled (h.image x.disk) s → x.dead ≡ false → ¬ (IsMedia reply) → (y.dead ≡ false)
        × IsEvent h s (uncut bytes) x.disk y.disk (GoesOn h s (uncut bytes) reply y.disk)
    whole_done s settled alive other =
        let a = r.reply s settled.shop alive other in (
          a.2,
          ⊎_elim
              (λ f. absurd (other f.0))
              (λ f. answered h s (uncut bytes) x.disk y.disk reply refl (r.moments s settled.shop).held
              (λ asks. ap (λ v. v.disk) (r.quiet s settled.shop alive asks).1) f.1 a.0 a.1)
              r.failures,
        )

    pub whole_stopped : (s : Shop) → IsSettled (h.image x.disk) s → x.dead ≡ false → IsMedia reply
        → IsEvent h s (uncut bytes) x.disk y.disk (EndsFailed h s (uncut bytes) reply y.disk)
    whole_stopped s settled alive is = ⊎_elim
        (λ f. told_media h s (uncut bytes) x.disk y.disk reply refl (r.moments s settled.shop).held
        (λ asks. ap (λ v. v.disk) (r.quiet s settled.shop alive asks).1)
        (⊎_elim (λ dead. absurd (let e = sym dead ∙ alive in cc)) (λ z. z) f.2) (r.media is) is)
        (λ f. absurd (f.0 is))
        r.failures

    pub whole_within : (s : Shop) → IsSettled (h.image x.disk) s → IsWithin h (uncut bytes) x.disk y.disk
    whole_within s settled = record {
      most = (r.moments s settled.shop).writes;
      needed = λ f has. r.writes f has;
    }

    pub whole_most : IsWithinMost h (uncut bytes) x.disk y.disk
    whole_most s settled = (r.moments s settled.shop).writes

    pub whole_spared : x.dead ≡ false → SparesTheDisk h (uncut bytes) x.disk y.disk
    whole_spared alive s settled asks =
        let stays = r.quiet s settled.shop alive asks in
        let same : h.writes y.disk ≡ h.writes x.disk = ap (λ v. h.writes v.disk) stays.1 in
        omega (arith, same)
