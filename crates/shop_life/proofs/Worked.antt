-- The worked life is one.
use Rattle.std.proofs.Common.{◌≡◌, ◌∙◌, ◌≤◌, ◌<◌, ◌+◌, ◌⊎◌, ℕ, Bool, true, false, List, [], ◌∷◌, ◌++◌, Option, Some, None, Ok}
use Rattle.std.proofs.Common.{ap, arith, inl, inr, le_refl, refl, subst, sym}
use Rattle.std.specs.Fmt.{digits}
use Rattle.d64_image.specs.History as devices
use Rattle.d64_image.specs.Images.{Image}
use Rattle.disk_layout.specs.Rest.{Rest}
use Rattle.disk_layout.specs.Whole.{IsWhole}
use Rattle.host_session.proofs.lemmas.shop.Shops.{IsShop-one}
use Rattle.host_session.specs.Held.{Changes, HeldOnly}
use Rattle.host_session.specs.session.Handled.{IsHandled}
use Rattle.host_session.specs.session.Handling.{IsMedia, after_of, is_next_request}
use Rattle.host_session.specs.session.Opened.{IsOpened}
use Rattle.host_session.specs.session.Opening.{Untouched}
use Rattle.host_session.specs.shop.Shop.{IsSettled, IsShop, Shop, start_of, with_state}
use Rattle.line_text.specs.Numbers.{number_before, number_in}
use Rattle.request_cards.specs.Ledgers.{after, applied, next_in, plain, reply, reply_in}
use Rattle.request_cards.specs.Reading.{amounts, kind_before, kind_of, request_of}
use Rattle.request_cards.specs.Requests.{Ask}
use Rattle.request_cards.specs.declared.answer.Answer.{Answer}
use Rattle.request_cards.specs.declared.reply.Reply.{Reply}
use Rattle.request_cards.specs.declared.reply.Reply.TheVariants.{Told}
use Rattle.request_cards.specs.declared.reply.Word.TheVariants.{Kept, Media}
use Rattle.shop_life.proofs.Kept.{after_more, limits_reply}
use Rattle.shop_life.specs.Lives.{IsLife, asks_of, off, shop_after}
use Rattle.shop_life.specs.OneList.{IsAfter}
use Rattle.shop_life.specs.Worked.{IsOneOf, Page, Pictures, alive, at_first, first_ask, first_message, first_reply, page, paper}
use Rattle.shop_life.specs.Worked.{second_ask, second_message, second_reply, third_ask, third_message, third_reply, worked}

never_both : {X : Type 0} (b : Bool) → b ≡ true → b ≡ false → X
never_both b x y = let e : true ≡ false = sym x ∙ y in cc

some_none : {X : Type 0} (o : Option Ask) (a : Ask) → o ≡ Some a → o ≡ None → X
some_none o a x y = let e : Some a ≡ None = sym x ∙ y in cc

kept_not_media : (t n : ℕ) (a : Answer) → IsMedia (Told t n (Kept a)) → ⊥
kept_not_media t n a x = let e : Told t n (Kept a) ≡ Told x.0 x.1 Media = x.2 in cc

-- each of the images that a device held has P
abbrev AllOf : Page → (Image → Type 0) → Type 0
AllOf d P = P d.image × ((c : Image) → IsOneOf d.past c → P c)

bare : (d new : Page) (P : Image → Type 0) → d.moment ≤ new.moment → AllOf new P → devices.HeldOnly paper d new P
bare d new P le all = record {
  reached = tt;
  later = le;
  each = λ c h. elim h [
    | inl e ↦ subst P (sym e) all.0
    | inr x ↦ all.1 c x.1
  ];
  before = λ t c low h. elim h [
    | inl e ↦ inr (subst P (sym e) all.0)
    | inr x ↦ inr (all.1 c x.1)
  ];
}

changes : (d new : Page) (n : ℕ) (P : Image → Type 0) → d.moment ≤ new.moment → AllOf new P → AllOf new IsWhole
    → Changes paper d new n P
changes d new n P le all whole = record {
  held = record {
    reached = tt;
    later = le;
    each = (bare d new P le all).each;
    before = (bare d new P le all).before;
    whole = λ _. bare d new IsWhole le whole;
  };
  writes = omega arith;
}

-- an opening
opened : (s : Shop) (d new : Page) → IsShop d.image s → IsSettled new.image s → d.moment ≤ new.moment
    → AllOf new (λ c. IsShop c s) → AllOf new IsWhole → ((t : Shop) → IsSettled d.image t → Untouched paper d new)
    → IsOpened paper d (Ok (alive new))
opened s d new shop settled le all whole quiet = record {
  ok = (s, shop, settled, refl);
  err = tt;
  opens = λ never. ((λ ok. (s, shop)), (λ some. refl));
  moments = λ t is. changes d new 952 (λ c. IsShop c t) le
      (subst (λ (u : Shop). AllOf new (λ c. IsShop c u)) (IsShop-one d.image s t shop is) all) whole;
  unfit = λ none. absurd (none (s, shop));
  quiet = quiet;
  failures = refl;
}

-- a message; it is its till's next one, or leaves all as it is
handled : (s : Shop) (before : List Ask) (d new : Page) (m : List ℕ) (a : Ask) (told : Reply) → request_of m ≡ Some a
    → IsAfter s before d.image → IsSettled new.image (shop_after s (before ++ a ∷ [])) → d.moment ≤ new.moment
    → AllOf new (λ c. IsAfter s before c ⊎ IsAfter s (before ++ a ∷ []) c) → AllOf new IsWhole
    → told ≡ reply (start_of s) before (Some a) → (IsMedia told → ⊥)
    → (next_in (start_of s) (plain (start_of s) before) a ≡ true) ⊎ (new ≡ d)
    → IsHandled paper (alive d) (alive new) m told
handled s before d new m a told is here settled le all whole rule other next = record {
  syntax = λ none. some_none (request_of m) a is none;
  dead = λ dead. never_both false dead refl;
  quiet = λ t at live calm. elim next [
    | inl due ↦ never_both (next_in (start_of s) (plain (start_of s) before) a) due
        (ap (λ (o : Option Ask). is_next_request (shop_after s before) o) (sym is)
        ∙ subst (λ (u : Shop). is_next_request u (request_of m) ≡ false) (sym (same t at)) calm)
    | inr e ↦ (told_in t at, ap alive e)
  ];
  reply = λ t at live not. (told_in t at, settled_in t at, refl);
  moments = λ t at. changes d new 3618 (λ c. IsShop c t ⊎ IsShop c (after_of t m)) le
      (subst (λ (u : Shop). AllOf new (λ c. IsShop c u ⊎ IsShop c (after_of u m))) (same t at) either) whole;
  onward = λ t at. inl (settled_in t at).shop;
  writes = λ f x. omega arith;
  counted = λ t at lt. absurd (omega (arith, lt));
  media = λ x. absurd (other x);
  failures = inr (other, refl);
}
  where
    same : (t : Shop) → IsShop d.image t → shop_after s before ≡ t
    same t at = IsShop-one d.image (shop_after s before) t here at

    ends : after_of (shop_after s before) m ≡ shop_after s (before ++ a ∷ [])
    ends = after_more paper s before m ∙ ap (λ (o : Option Ask). shop_after s (before ++ list_of o)) is
      where
        list_of : Option Ask → List Ask
        list_of None = []
        list_of (Some b) = b ∷ []

    told_in : (t : Shop) → IsShop d.image t → told ≡ reply_in (start_of t) t.state (request_of m)
    told_in t at = subst (λ (u : Shop). told ≡ reply_in (start_of u) u.state (request_of m)) (same t at)
        (rule ∙ sym (limits_reply s before (Some a))
        ∙ ap (reply_in (start_of (shop_after s before)) (plain (start_of s) before)) (sym is))

    settled_in : (t : Shop) → IsShop d.image t → IsSettled new.image (after_of t m)
    settled_in t at = subst (λ (u : Shop). IsSettled new.image (after_of u m)) (same t at)
        (subst (IsSettled new.image) (sym ends) settled)

    either : AllOf new (λ c. IsShop c (shop_after s before) ⊎ IsShop c (after_of (shop_after s before) m))
    either = subst (λ (u : Shop). AllOf new (λ c. IsShop c (shop_after s before) ⊎ IsShop c u)) (sym ends) all

-- what is at rest stays as it is
at_rest : (d : Page) → AllOf d IsWhole → AllOf d (λ c. c ≡ d.image) → Untouched paper d d
at_rest d whole all = changes d d 0 (λ c. c ≡ d.image) (le_refl d.moment) all whole

module _ (rest : Rest) (x : Pictures rest) where
  abbrev s : Shop
  s = at_first rest

  abbrev one : List Ask
  one = first_ask ∷ []

  abbrev two : List Ask
  two = first_ask ∷ second_ask ∷ []

  abbrev three : List Ask
  three = first_ask ∷ second_ask ∷ third_ask ∷ []

  none_shop : (c : Image) → IsShop c s → IsAfter s [] c
  unfolding plain
  none_shop c h = h

  pub told_first : first_reply ≡ reply (start_of s) [] (Some first_ask)
  unfolding plain
  told_first = refl

  pub told_second : second_reply ≡ reply (start_of s) one (Some second_ask)
  unfolding plain
  told_second = refl

  pub told_again : second_reply ≡ reply (start_of s) two (Some second_ask)
  unfolding plain
  told_again = refl

  pub told_third : third_reply ≡ reply (start_of s) two (Some third_ask)
  unfolding plain
  told_third = refl

  next_first : next_in (start_of s) (plain (start_of s) []) first_ask ≡ true
  unfolding plain
  next_first = refl

  next_second : next_in (start_of s) (plain (start_of s) one) second_ask ≡ true
  unfolding plain
  next_second = refl

  next_third : next_in (start_of s) (plain (start_of s) two) third_ask ≡ true
  unfolding plain
  next_third = refl

  same_twice : shop_after s (two ++ second_ask ∷ []) ≡ shop_after s two
  unfolding plain
  same_twice = refl

  asks_first : request_of first_message ≡ Some first_ask
  unfolding request_of number_before kind_before number_in amounts kind_of digits
  asks_first = refl

  asks_second : request_of second_message ≡ Some second_ask
  unfolding request_of number_before kind_before number_in amounts kind_of digits
  asks_second = refl

  asks_third : request_of third_message ≡ Some third_ask
  unfolding request_of number_before kind_before number_in amounts kind_of digits
  asks_third = refl

  abbrev Wholes : List Image → Type 0
  Wholes past = (c : Image) → IsOneOf past c → IsWhole c

  -- the recovery from an image that power left
  recovered : (i : Image) (d : Page) (past : List Image) → d.image ≡ i → d.moment ≡ 0 → IsShop i (shop_after s two)
      → ((t : Shop) → IsSettled i t → ⊥) → ((c : Image) → IsOneOf past c → IsShop c (shop_after s two) × IsWhole c)
      → IsOpened paper d (Ok (alive (page rest x x.two past 1)))
  recovered i d past is start shop unrested all =
      opened (shop_after s two) d (page rest x x.two past 1) (subst (λ c. IsShop c (shop_after s two)) (sym is) shop)
      x.two.has (omega (arith, start)) (x.two.has.shop, λ c h. (all c h).0) (x.two.whole, λ c h. (all c h).1)
      (λ t rested. absurd (unrested t (subst (λ c. IsSettled c t) is rested)))

  -- the third message
  third : (d : Page) (n : ℕ) → d.image ≡ x.two.image → d.moment ≤ n
      → IsHandled paper (alive d) (alive (page rest x x.three (x.two.image ∷ []) n)) third_message third_reply
  third d n is le =
      handled s two d (page rest x x.three (x.two.image ∷ []) n) third_message third_ask third_reply asks_third
      (subst (λ c. IsAfter s two c) (sym is) x.two.has.shop) x.three.has le (
        inr x.three.has.shop,
        λ c h. elim h [
          | inl e ↦ inl (subst (λ c. IsAfter s two c) (sym e) x.two.has.shop)
          | inr y ↦ absurd y
        ],
      ) (
        x.three.whole,
        λ c h. elim h [
          | inl e ↦ subst IsWhole (sym e) x.two.whole
          | inr y ↦ absurd y
        ],
      )
      told_third (kept_not_media 1 2 _) (inl next_third)

  both : (P : Image → Type 0) (i j : Image) → P i → P j → (c : Image) → IsOneOf (i ∷ j ∷ []) c → P c
  both P i j p q c h = elim h [
    | inl e ↦ subst P (sym e) p
    | inr y ↦ elim y [
      | inl e ↦ subst P (sym e) q
      | inr z ↦ absurd z
    ]
  ]

  only : (P : Image → Type 0) (i : Image) → P i → (c : Image) → IsOneOf (i ∷ []) c → P c
  only P i p c h = elim h [
    | inl e ↦ subst P (sym e) p
    | inr z ↦ absurd z
  ]

  abbrev Fits : Image → Type 0
  Fits c = IsShop c (shop_after s two) × IsWhole c

  pub lived : IsLife paper (off (page rest x x.none [] 0)) (worked rest x)
  lived = (
    opened s (page rest x x.none [] 0) (page rest x x.none [] 0) x.none.has.shop x.none.has (omega arith)
        (x.none.has.shop, λ c h. absurd h) (x.none.whole, λ c h. absurd h)
        (λ t is. at_rest (page rest x x.none [] 0) (x.none.whole, λ c h. absurd h) (refl, λ c h. absurd h)),
    (
      handled s [] (page rest x x.none [] 0) (page rest x x.one (x.none.image ∷ []) 1) first_message first_ask first_reply
          asks_first (none_shop x.none.image x.none.has.shop) x.one.has (omega arith) (
            inr x.one.has.shop,
            only (λ c. IsAfter s [] c ⊎ IsAfter s one c) x.none.image
                (inl (none_shop x.none.image x.none.has.shop)),
          )
          (x.one.whole, only IsWhole x.none.image x.none.whole) told_first (kept_not_media 1 1 _) (inl next_first),
      (
        (
          handled s one (page rest x x.one (x.none.image ∷ []) 1)
              (page rest x x.two (x.one.image ∷ x.intent.image ∷ []) 2) second_message second_ask second_reply
              asks_second x.one.has.shop x.two.has (omega arith) (
                inr x.two.has.shop,
                both (λ c. IsAfter s one c ⊎ IsAfter s two c) x.one.image x.intent.image
                    (inl x.one.has.shop) (inr x.intent.has.0),
              )
              (x.two.whole, both IsWhole x.one.image x.intent.image x.one.whole x.intent.whole) told_second
              (kept_not_media 2 1 _) (inl next_second),
          inr (omega arith, inr (inl refl)),
        ),
        (
          (
            recovered x.intent.image (page rest x x.intent [] 0) (x.intent.image ∷ x.half.image ∷ []) refl refl x.intent.has.0
                x.intent.has.1 (both Fits x.intent.image x.half.image (x.intent.has.0, x.intent.whole)
                (x.half.has.0, x.half.whole)),
            inr (omega arith, inr (inl refl)),
          ),
          (
            recovered x.half.image (page rest x x.half [] 0) (x.half.image ∷ []) refl refl x.half.has.0 x.half.has.1
                (only Fits x.half.image (x.half.has.0, x.half.whole)),
            (
              handled s two (page rest x x.two (x.half.image ∷ []) 1) (page rest x x.two (x.half.image ∷ []) 1)
                  second_message second_ask second_reply asks_second x.two.has.shop
                  (subst (IsSettled x.two.image) (sym same_twice) x.two.has) (omega arith) (
                    inl x.two.has.shop,
                    only (λ c. IsAfter s two c ⊎ IsAfter s (two ++ second_ask ∷ []) c) x.half.image
                        (inl x.half.has.0),
                  ) (x.two.whole, only IsWhole x.half.image x.half.whole) told_again
                  (kept_not_media 2 1 _) (inr refl),
              (
                (third (page rest x x.two (x.half.image ∷ []) 1) 2 refl (omega arith), inr (omega arith, inl refl)),
                (
                  opened (shop_after s two) (page rest x x.two [] 0) (page rest x x.two [] 0) x.two.has.shop x.two.has
                      (omega arith) (x.two.has.shop, λ c h. absurd h) (x.two.whole, λ c h. absurd h)
                      (λ t is. at_rest (page rest x x.two [] 0) (x.two.whole, λ c h. absurd h) (refl, λ c h. absurd h)),
                  (third (page rest x x.two [] 0) 1 refl (omega arith), tt),
                ),
              ),
            ),
          ),
        ),
      ),
    ),
  )
