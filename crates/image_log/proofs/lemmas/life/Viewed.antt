-- A log that is read, and then the image and the log's mark, while a writer may go on.
use Rattle.std.proofs.Common.{◌≡◌, ◌∙◌, ℕ, Bool, List, Option, Some, ap, false, inr, refl, subst, sym, true, ⊎_elim}
use Rattle.std.proofs.lemmas.Bool.{false≢true}
use Rattle.std.proofs.lemmas.Option.{same_Some}
use Rattle.std.specs.Prelude.{Err, IfErr, Ok, Result}
use Rattle.d64_image.specs.Images.{Image}
use Rattle.image_log.specs.Recovered.{base_of, is_marked, recovered}
use Rattle.image_log.specs.life.Mixes.{IsMixOf}
use Rattle.image_log.specs.life.Shops.{LogGives, given_by}
use Rattle.image_log.specs.life.Views.{Goes, GoesTo, HasLanded, HasMark, IsLogViewed, Lands, Seen, SeenGives}
use Rattle.image_log.proofs.lemmas.life.Mixed.{mix_back, mix_gives, mix_more}

pub if_err : {T E : Type 0} (Q : E → Type 0) (P : Type 0) (r : Result T E) → P → IfErr r (λ e. Q e → P)
if_err Q P (Ok x) p = tt
if_err Q P (Err e) p = λ q. p

pub if_err_of : {T E : Type 0} (P : E → Type 0) (r : Result T E) (e : E) → r ≡ Err e → P e → IfErr r P
if_err_of P r e is p = subst (λ x. IfErr x P) (sym is) p

module _ (s t u : Seen) (l : Bool) (f : List ℕ) (log : s.log ≡ Some f) (name : s.named ≡ true) (one : Goes s t)
    (two : Goes t u) (looked : HasLanded u (is_marked f) l) where
  pub gives_log : (given : Image) → SeenGives s given → LogGives f s.image given
  gives_log given gives = subst (λ (o : Option (List ℕ)). given_by o s.image given) log gives

  gives_back : (given : Image) → LogGives f s.image given → SeenGives s given
  gives_back given gives = subst (λ (o : Option (List ℕ)). given_by o s.image given) (sym log) gives

  has_mark : (a b : Seen) → Goes a b → HasMark a → HasMark b
  has_mark a b goes got =
      let there = goes.mark (recovered got.0) (got.0, got.1, got.2, refl) in
      (there.0, there.1, there.2)

  -- no writer has landed it
  module _ (not : l ≡ false) where
    -- the log had its mark when it was read
    module _ (marked : is_marked f ≡ true) where
      lands : Lands (recovered f) s
      lands = (f, log, marked, refl)

      there : u.named ≡ true
      there = looked.not_lost marked not

      first : IsMixOf s.image (recovered f) t.image
      first = one.landing (recovered f) lands (two.name there)

      marked_judged : (given : Image) → LogGives f s.image given → LogGives f t.image given
      marked_judged given gives = record {
        size = gives.size;
        based = gives.based;
        own = inr (
          marked,
          mix_more (base_of f) given s.image t.image (mix_gives f s.image given gives)
              (subst (λ (x : Image). IsMixOf s.image x t.image) gives.is first),
        );
        is = gives.is;
        ends = gives.ends;
      }

      marked_back : (v : Seen) → Goes u v → v ≡ s → (shop : Image) → LogGives f t.image shop → LogGives f s.image shop
      marked_back v three same shop gives =
          let then = one.mark (recovered f) lands in
          let next : IsMixOf t.image (recovered f) u.image = two.landing (recovered f) then there in
          let last : IsMixOf u.image (recovered f) v.image = three.landing (recovered f) (two.mark (recovered f) then)
          (ap (λ (x : Seen). x.named) same ∙ name) in
          record {
            size = gives.size;
            based = gives.based;
            own = inr (
              marked,
              mix_back (base_of f) shop s.image t.image v.image
                  (subst (λ (x : Image). IsMixOf s.image x t.image) gives.is first)
                  (subst (λ (x : Image). IsMixOf t.image x v.image) gives.is (mix_more t.image (recovered f) u.image v.image next last))
                  (ap (λ (x : Seen). x.image) same) (mix_gives f t.image shop gives),
            );
            is = gives.is;
            ends = gives.ends;
          }

    -- it has no mark in the end
    image_stays : is_marked f ≡ false → t.image ≡ s.image
    image_stays none = ⊎_elim (λ same. same)
        (λ got. absurd (false≢true (sym not ∙ looked.not_got none (has_mark t u two got))))
        one.image

    -- an image that was given is judged to be given
    pub judged : (given : Image) → SeenGives s given → LogGives f t.image given
    judged given gives = by_log (is_marked f) refl
      where
        by_log : (b : Bool) → is_marked f ≡ b → LogGives f t.image given
        by_log true is = marked_judged is given (gives_log given gives)
        by_log false is = subst (λ (i : Image). LogGives f i given) (sym (image_stays is)) (gives_log given gives)

    -- where nothing has changed in the end, what is judged to be given is
    pub was_given : (v : Seen) → Goes u v → v ≡ s → (shop : Image) → LogGives f t.image shop → SeenGives s shop
    was_given v three same shop gives = by_log (is_marked f) refl
      where
        by_log : (b : Bool) → is_marked f ≡ b → SeenGives s shop
        by_log true is = gives_back shop (marked_back is v three same shop gives)
        by_log false is = gives_back shop (subst (λ (i : Image). LogGives f i shop) (image_stays is) gives)

  -- a writer has: then something has changed
  pub was_changed : {P : Type 0} → l ≡ true → (v : Seen) → Goes u v → v ≡ s → P
  was_changed {P} landed v three same = by_log (is_marked f) refl
    where
      by_log : (b : Bool) → is_marked f ≡ b → P
      by_log true is = absurd (false≢true (sym (looked.lost is landed)
          ∙ three.name (ap (λ (x : Seen). x.named) same ∙ name)))
      by_log false is =
          let there : HasMark s = subst HasMark same (has_mark u v three (looked.got is landed)) in
          absurd (false≢true (sym is ∙ ap is_marked (same_Some _ _ (sym log ∙ there.1)) ∙ there.2))

module _ {V : Type 0} (seen : V → Option Seen) (v0 v1 v2 : V) (m l : Bool) (f : List ℕ) (now : Image) (is_m : m ≡ is_marked f)
    (image : (s : Seen) → seen v0 ≡ Some s → now ≡ s.image)
    (goes0 : (s : Seen) → seen v0 ≡ Some s → GoesTo seen s v1)
    (looked : (s : Seen) → seen v1 ≡ Some s → HasLanded s m l)
    (goes1 : (s : Seen) → seen v1 ≡ Some s → GoesTo seen s v2)
    (s t : Seen) (at : seen v0 ≡ Some t) (one : Goes s t) (log : s.log ≡ Some f) (name : s.named ≡ true) where
  u : GoesTo seen t v1
  u = goes0 t at

  look : HasLanded u.0 (is_marked f) l
  look = subst (λ (b : Bool). HasLanded u.0 b l) is_m (looked u.0 u.1)

  is_given : (given : Image) → SeenGives s given → LogGives f s.image given
  is_given given gives = gives_log s t u.0 l f log name one u.2 look given gives

  -- the log was judged
  module _ (not : l ≡ false) where
    is_judged : (given : Image) → SeenGives s given → LogGives f now given
    is_judged given gives = subst (λ (i : Image). LogGives f i given) (sym (image t at))
        (judged s t u.0 l f log name one u.2 look not given gives)

    pub not_refused : ((given : Image) → LogGives f now given → ⊥) → (given : Image) → SeenGives s given → ⊥
    not_refused refused given gives = refused given (is_judged given gives)

    pub viewed : (shop : Image) → LogGives f now shop → IsLogViewed seen s v2 shop
    viewed shop gives =
        let w = goes1 u.0 u.1 in
        record {
          given = λ given was. sym gives.is ∙ (is_judged given was).is;
          still = λ same. was_given s t u.0 l f log name one u.2 look not w.0 w.2 (same_Some w.0 s (sym w.1 ∙ same)) shop
              (subst (λ (i : Image). LogGives f i shop) (image t at) gives);
        }

  pub landed_viewed : l ≡ true → (shop : Image) → shop ≡ recovered f → IsLogViewed seen s v2 shop
  landed_viewed landed shop is =
      let w = goes1 u.0 u.1 in
      record {
        given = λ given was. is ∙ (is_given given was).is;
        still = λ same. was_changed s t u.0 l f log name one u.2 look landed w.0 w.2 (same_Some w.0 s (sym w.1 ∙ same));
      }
