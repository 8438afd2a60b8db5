-- A message on a disk whose power fails.
use Rattle.std.proofs.Common.{◌≡◌, ◌≢◌, ◌<◌, ◌≤◌, ◌+◌, ◌⊎◌, ⊎_elim, inl, inr, ℕ, zero, suc, Bool, true, false, List, []}
use Rattle.std.proofs.Common.{Option, Some, None, refl, sym, subst, arith}
use Rattle.std.specs.Prelude.{option_to_list}
use Rattle.d64_image.specs.declared.fuse.Fuse.{Fuse}
use Rattle.d64_image.specs.Images.{Image}
use Rattle.d64_image.specs.History.{History, Failed}
use Rattle.host_session.specs.Held.{HeldOnly, Changes}
use Rattle.d64_image.specs.Fuses.{fuse, fuse_disk, fuse_left, fuse_limit, fuse_passed, fuse_failures}
use Rattle.d64_image.proofs.Moments.{failed_before}
use Rattle.host_session.proofs.lemmas.Held.{start, then, weaker, at_end}
use Rattle.host_session.proofs.lemmas.Held.{held_beneath, cause_beneath}
use Rattle.request_cards.specs.Requests.{Ask}
use Rattle.request_cards.specs.Ledgers.{State}
use Rattle.request_cards.specs.Reading.{request_of}
use Rattle.host_session.proofs.lemmas.events.Parts.{after_whole, counted_either, counts_failed, failed_out}
use Rattle.host_session.proofs.lemmas.events.Parts.{first_set_out, none_counts, whole_counts}
use Rattle.host_session.specs.events.Counted.{MayCount, after_all}
use Rattle.host_session.specs.events.Events.{Message, cut_at}
use Rattle.host_session.specs.events.OneEvent.{IsEvent, IsInEvent, Leaves}
use Rattle.host_session.specs.events.Quiet.{AsksNothing, LeavesAlone}
use Rattle.host_session.specs.session.Handling.{IsBeforeOrAfter, MayGrow, after_of}
use Rattle.host_session.specs.shop.Shop.{IsShop, Shop, start_of, with_state}

positive : (n : ℕ) → 0 < n → Some n ≢ Some 0
positive zero low e = omega (arith, low)
positive (suc n) low e = cc

module _ {D : Type 0} (h : History D) where
  -- nothing of it passed
  pub not_begun : (s : Shop) (bytes : List ℕ) (d : D) → IsShop (h.image d) s
      → IsEvent h s (cut_at bytes 0) d d (Leaves h s d)
  not_begun s bytes d shop = record {
    failed = false;
    counted = [];
    is = none_counts s.top s.state (request_of bytes) false;
    blame = λ e. cc;
    later = omega arith;
    unfailed = λ e. cc;
    moments = start h d (IsInEvent s (cut_at bytes 0)) (inl shop);
    quiet = λ _. start h d (λ i. i ≡ h.image d) refl;
    ends = shop;
  }

  -- the message counts whole
  counted_whole : (s : Shop) (bytes : List ℕ) (n : ℕ) (a b : D) → 0 < n → h.failures a ≤ h.failures b
      → HeldOnly h a b (IsInEvent s (cut_at bytes n)) → LeavesAlone h s (cut_at bytes n) a b
      → IsShop (h.image b) (after_of s bytes) → IsEvent h s (cut_at bytes n) a b (Leaves h s b)
  counted_whole s bytes n a b low later held quiet shop = record {
    failed = false;
    counted = option_to_list (request_of bytes);
    is = whole_counts s.top s.state (request_of bytes) (Some n) false (positive n low);
    blame = λ e. cc;
    later = later;
    unfailed = λ e. cc;
    moments = held;
    quiet = quiet;
    ends = subst (λ state. IsShop (h.image b) (with_state s state))
        (sym (after_whole (start_of s) s.state (request_of bytes))) shop;
  }

  -- the message doesn't count, for a reason
  counted_not : (s : Shop) (bytes : List ℕ) (n : ℕ) (failed : Bool) (a b : D) → h.failures a ≤ h.failures b
      → (failed ≡ true → Failed h a b) → MayCount s.top s.state (request_of bytes) (Some n) failed []
      → HeldOnly h a b (IsInEvent s (cut_at bytes n)) → LeavesAlone h s (cut_at bytes n) a b → IsShop (h.image b) s
      → IsEvent h s (cut_at bytes n) a b (Leaves h s b)
  counted_not s bytes n failed a b later blame is held quiet shop = record {
    failed = failed;
    counted = [];
    is = is;
    blame = blame;
    later = later;
    unfailed = λ e. cc;
    moments = held;
    quiet = quiet;
    ends = shop;
  }

  -- the device failed in the message: it counts or not, as the disk has it
  failed_within : (s : Shop) (bytes : List ℕ) (n : ℕ) (a b : D) → 0 < n → Failed h a b
      → HeldOnly h a b (IsInEvent s (cut_at bytes n)) → LeavesAlone h s (cut_at bytes n) a b
      → IsBeforeOrAfter s bytes (h.image b) → IsEvent h s (cut_at bytes n) a b (Leaves h s b)
  failed_within s bytes n a b low failed held quiet = ⊎_elim
      (λ before. counted_not s bytes n true a b failed.later (λ _. failed)
      (failed_out s.top s.state (request_of bytes) (Some n)) held quiet before)
      (λ after. counted_whole s bytes n a b low failed.later held quiet after)

  first_out : (s : Shop) (o : Option Ask) (n : ℕ) → MayGrow s o → n < 3619 → MayCount s.top s.state o (Some n) false []
  first_out s None n grow high = refl
  first_out s (Some a) n grow high = first_set_out s.top s.state a n false grow high

  -- power went in a message that may grow the file of cards
  grown_within : (s : Shop) (bytes : List ℕ) (n : ℕ) (a b : D) → 0 < n → n < 3619 → h.failures a ≤ h.failures b
      → MayGrow s (request_of bytes)
      → HeldOnly h a b (IsInEvent s (cut_at bytes n)) → LeavesAlone h s (cut_at bytes n) a b
      → IsBeforeOrAfter s bytes (h.image b) → IsEvent h s (cut_at bytes n) a b (Leaves h s b)
  grown_within s bytes n a b low high later grow held quiet = ⊎_elim
      (λ before. counted_not s bytes n false a b later (λ e. cc)
      (first_out s (request_of bytes) n grow high) held quiet before)
      (λ after. counted_whole s bytes n a b low later held quiet after)

  way : (s : Shop) (bytes : List ℕ) (n : ℕ) (i : Image) → 0 < n → IsBeforeOrAfter s bytes i
      → IsInEvent s (cut_at bytes n) i
  way s bytes n i low = ⊎_elim (λ x. inl x) (λ x. inr (positive n low, x))

  -- a message handed to a session over a fuse that isn't blown yet
  over_fuse : (s : Shop) (bytes : List ℕ) (n : ℕ) (a b : Fuse D) → 0 < n
      → fuse_left a ≡ n → fuse_limit a ≡ n → fuse_failures a ≡ 0 → Changes (fuse h) a b 3618 (IsBeforeOrAfter s bytes)
      → (fuse_passed a < fuse_passed b → MayGrow s (request_of bytes)
      ⊎ IsShop (h.image (fuse_disk b)) (after_of s bytes))
      → (AsksNothing s (cut_at bytes n) → b ≡ a)
      → Failed (fuse h) a b ⊎ IsShop (h.image (fuse_disk b)) (after_of s bytes)
      → IsEvent h s (cut_at bytes n) (fuse_disk a) (fuse_disk b) (Leaves h s (fuse_disk b))
  over_fuse s bytes n a b low left limit fresh changes grows alone =
      let P : Image → Type 0 = IsBeforeOrAfter s bytes in
      let moments : HeldOnly h (fuse_disk a) (fuse_disk b) (IsInEvent s (cut_at bytes n))
      = weaker h (fuse_disk a) (fuse_disk b) P (IsInEvent s (cut_at bytes n)) (λ i x. way s bytes n i low x)
      (held_beneath h a b P changes.held) in
      let later : h.failures (fuse_disk a) ≤ h.failures (fuse_disk b) = changes.held.reached.failures in
      let ends : P (h.image (fuse_disk b)) = at_end (fuse h) a b P changes.held in
      let quiet : LeavesAlone h s (cut_at bytes n) (fuse_disk a) (fuse_disk b) = λ asks. subst
      (λ (x : Fuse D). HeldOnly h (fuse_disk a) (fuse_disk x) (λ i. i ≡ h.image (fuse_disk a))) (sym (alone asks))
      (start h (fuse_disk a) (λ i. i ≡ h.image (fuse_disk a)) refl) in
      let none : fuse_passed a ≡ 0 = omega (arith, left, limit, low, a.within) in
      ⊎_elim
      (λ (failed : Failed (fuse h) a b). ⊎_elim
      (λ (blown : fuse_left b ≡ 0).
      let spent : fuse_passed b ≡ n = omega (arith, blown, changes.held.reached.limit, limit, b.within) in
      ⊎_elim
      (λ grow. grown_within s bytes n (fuse_disk a) (fuse_disk b) low
      (omega (arith, changes.writes, spent, none)) later grow moments quiet ends)
      (λ after. counted_whole s bytes n (fuse_disk a) (fuse_disk b) low later moments quiet after)
      (grows (omega (arith, spent, none, low))))
      (λ (beneath : Failed h (fuse_disk a) (fuse_disk b)).
      failed_within s bytes n (fuse_disk a) (fuse_disk b) low beneath moments quiet ends)
      (cause_beneath h a b P changes.held (omega (arith, fresh)) failed))
      (λ after. counted_whole s bytes n (fuse_disk a) (fuse_disk b) low later moments quiet after)

  -- the same for any number of writes; with none nothing passes
  pub message_cut : (s : Shop) (bytes : List ℕ) (n : ℕ) (d r : D) (a b : Fuse D)
      → fuse_disk a ≡ d → r ≡ fuse_disk b → fuse_left a ≡ n → fuse_limit a ≡ n → fuse_failures a ≡ 0
      → IsShop (h.image d) s → (IsShop (h.image (fuse_disk a)) s → Changes (fuse h) a b 3618 (IsBeforeOrAfter s bytes))
      → (IsShop (h.image (fuse_disk a)) s → fuse_passed a < fuse_passed b → MayGrow s (request_of bytes)
      ⊎ IsShop (h.image (fuse_disk b)) (after_of s bytes))
      → (IsShop (h.image (fuse_disk a)) s → AsksNothing s (cut_at bytes n) → b ≡ a)
      → (IsShop (h.image (fuse_disk a)) s → Failed (fuse h) a b ⊎ IsShop (h.image (fuse_disk b)) (after_of s bytes))
      → IsEvent h s (cut_at bytes n) d r (Leaves h s r)
  message_cut s bytes n d r a b is ends left limit fresh shop changes grows alone told =
      let there : IsShop (h.image (fuse_disk a)) s = subst (λ (x : D). IsShop (h.image x) s) (sym is) shop in
      subst (λ (x : D). IsEvent h s (cut_at bytes n) x r (Leaves h s r)) is
      (subst (λ (x : D). IsEvent h s (cut_at bytes n) (fuse_disk a) x (Leaves h s x)) (sym ends)
      (pick n left limit there))
    where
      pick : (m : ℕ) → fuse_left a ≡ m → fuse_limit a ≡ m → IsShop (h.image (fuse_disk a)) s
          → IsEvent h s (cut_at bytes m) (fuse_disk a) (fuse_disk b) (Leaves h s (fuse_disk b))
      pick zero none most there = subst (λ (x : D). IsEvent h s (cut_at bytes 0) (fuse_disk a) x (Leaves h s x))
          (sym ((changes there).held.reached.spent none)) (not_begun s bytes (fuse_disk a) there)
      pick (suc m) some most there = over_fuse s bytes (suc m) a b (omega arith) some most fresh
          (changes there) (grows there) (alone there) (told there)

  -- no more is counted than the fuse lets pass
  pub cut_writes : (n k : ℕ) (d r : D) (a b : Fuse D) (P : Image → Type 0) → fuse_disk a ≡ d → r ≡ fuse_disk b
      → fuse_limit a ≡ n → Changes (fuse h) a b k P → h.writes r ≤ h.writes d + n
  cut_writes n k d r a b P is ends limit changes =
      let x = changes.held.reached in
      subst (λ (y : D). h.writes y ≤ h.writes d + n) (sym ends)
      (subst (λ (y : D). h.writes (fuse_disk b) ≤ h.writes y + n) is
      (omega (arith, x.writes, x.limit, limit, b.within)))

  -- nor more than was counted of the call
  pub cut_most : (k : ℕ) (d r : D) (a b : Fuse D) (P : Image → Type 0) → fuse_disk a ≡ d → r ≡ fuse_disk b
      → Changes (fuse h) a b k P → h.writes r ≤ h.writes d + k
  cut_most k d r a b P is ends changes =
      subst (λ (y : D). h.writes y ≤ h.writes d + k) (sym ends)
      (subst (λ (y : D). h.writes (fuse_disk b) ≤ h.writes y + k) is
      (omega (arith, changes.held.reached.writes, changes.writes)))

  -- an opening over a fuse holds the shop beneath it
  pub cut_moments : (s : Shop) (k : ℕ) (d r : D) (a b : Fuse D) → fuse_disk a ≡ d → r ≡ fuse_disk b
      → IsShop (h.image d) s
      → (IsShop (h.image (fuse_disk a)) s → Changes (fuse h) a b k (λ i. IsShop i s)) → HeldOnly h d r (λ i. IsShop i s)
  cut_moments s k d r a b is ends shop changes =
      subst (λ (x : D). HeldOnly h x r (λ i. IsShop i s)) is
      (subst (λ (x : D). HeldOnly h (fuse_disk a) x (λ i. IsShop i s)) (sym ends)
      (held_beneath h a b (λ i. IsShop i s) (changes (subst (λ (x : D). IsShop (h.image x) s) (sym is) shop)).held))

  pub cut_later : (s : Shop) (k : ℕ) (d r : D) (a b : Fuse D) → fuse_disk a ≡ d → r ≡ fuse_disk b → IsShop (h.image d) s
      → (IsShop (h.image (fuse_disk a)) s → Changes (fuse h) a b k (λ i. IsShop i s)) → h.failures d ≤ h.failures r
  cut_later s k d r a b is ends shop changes =
      subst (λ (x : D). h.failures x ≤ h.failures r) is
      (subst (λ (x : D). h.failures (fuse_disk a) ≤ h.failures x) (sym ends)
      (changes (subst (λ (x : D). IsShop (h.image x) s) (sym is) shop)).held.reached.failures)

  -- the shop that an event leaves is one on its way
  counted_way : (s : Shop) (m : Message) (failed : Bool) (counted : List Ask) (i : Image)
      → MayCount s.top s.state (request_of m.bytes) m.cut_after failed counted
      → IsShop i (with_state s (after_all (start_of s) s.state counted)) → IsInEvent s m i
  counted_way s m failed counted i is shop = ⊎_elim
      (λ none. inl (subst (λ (c : List Ask). IsShop i (with_state s (after_all (start_of s) s.state c))) none shop))
      (λ whole. inr (
        whole.0,
        subst (λ state. IsShop i (with_state s state)) (after_whole (start_of s) s.state (request_of m.bytes))
            (subst (λ (c : List Ask). IsShop i (with_state s (after_all (start_of s) s.state c))) whole.1 shop),
      ))
      (counted_either s.top s.state (request_of m.bytes) m.cut_after failed counted is)

  -- the moments of an event, and of openings after it
  pub way_then : (s : Shop) (m : Message) (failed : Bool) (counted : List Ask) (a b c : D)
      → MayCount s.top s.state (request_of m.bytes) m.cut_after failed counted → HeldOnly h a b (IsInEvent s m)
      → HeldOnly h b c (λ i. IsShop i (with_state s (after_all (start_of s) s.state counted)))
      → HeldOnly h a c (IsInEvent s m)
  way_then s m failed counted a b c is first second = then h a b c (IsInEvent s m) first
      (weaker h b c (λ i. IsShop i (with_state s (after_all (start_of s) s.state counted))) (IsInEvent s m)
      (λ i x. counted_way s m failed counted i is x) second)

  -- openings after an event that left a shop
  pub event_then : (s : Shop) (m : Message) (a b c : D) (Before After : Bool → State → Type 0) → m.cut_after ≢ None
      → (x : IsEvent h s m a b Before)
      → HeldOnly h b c (λ i. IsShop i (with_state s (after_all (start_of s) s.state x.counted)))
      → h.failures b ≤ h.failures c → LeavesAlone h s m a c → After x.failed (after_all (start_of s) s.state x.counted)
      → IsEvent h s m a c After
  event_then s m a b c Before After is x held later quiet ends = record {
    failed = x.failed;
    counted = x.counted;
    is = x.is;
    blame = λ e. failed_before h a b c (x.blame e) later;
    later = omega (arith, x.later, later);
    unfailed = λ none. absurd (is none);
    moments = way_then s m x.failed x.counted a b c x.is x.moments held;
    quiet = quiet;
    ends = ends;
  }

  -- openings in the last of which the device failed
  pub event_failed : (s : Shop) (m : Message) (a b c d : D) (Before After : Bool → State → Type 0)
      → (x : IsEvent h s m a b Before)
      → HeldOnly h b d (λ i. IsShop i (with_state s (after_all (start_of s) s.state x.counted)))
      → h.failures b ≤ h.failures c → Failed h c d → LeavesAlone h s m a d
      → After true (after_all (start_of s) s.state x.counted) → IsEvent h s m a d After
  event_failed s m a b c d Before After x held later failed quiet ends = record {
    failed = true;
    counted = x.counted;
    is = counts_failed s.top s.state (request_of m.bytes) m.cut_after x.failed x.counted x.is;
    blame = λ e. record {
      later = omega (arith, x.later, later, failed.later);
      rose =
          λ lt. omega (arith, x.later, later, failed.rose lt);
    };
    later = omega (arith, x.later, later, failed.later);
    unfailed = λ _ e. cc;
    moments = way_then s m x.failed x.counted a b d x.is x.moments held;
    quiet = quiet;
    ends = ends;
  }
