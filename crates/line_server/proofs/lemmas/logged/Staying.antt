-- Replies that were told, and the lines that stay since.
use Rattle.std.proofs.Common.{◌≡◌, ◌≤◌, ◌+◌, ◌∙◌, ℕ, List, [], ◌∷◌, ◌++◌, ap, append-nil, append_assoc, arith, length, refl, subst}
use Rattle.std.proofs.Common.{sym, ⊎_elim}
use Rattle.std.proofs.lemmas.List.{length-append, length-map}
use Rattle.d64_image.specs.Images.{Image}
use Rattle.request_cards.specs.declared.reply.Reply.{Reply}
use Rattle.host_session.specs.runs.Chains.{told_in}
use Rattle.host_session.specs.shop.Shop.{IsSettled, Shop}
use Rattle.image_log.specs.ImageLogs.{IsEither, LeavesImages, LogHistory}
use Rattle.line_server.specs.logged.Reporting.{over_log}
use Rattle.line_server.specs.logged.Serves.{HoldsFirst, StayFrom, shop_behind}
use Rattle.line_server.proofs.lemmas.logged.Leaving.{goes_on, stays}

-- the replies of a batch
pub told_over : {L : Type 0} (log : L) (rs : List Reply) → told_in (over_log log rs) ≡ rs
told_over log [] = refl
told_over log (r ∷ rs) = ap (λ xs. r ∷ xs) (told_over log rs)

pub as_many_over : {L : Type 0} (log : L) (rs : List Reply) → length (over_log log rs) ≡ length rs
as_many_over log rs = length-map rs (λ r. (r, log))

-- first lines of some are first lines of more
pub more_lines : (s : Shop) (ls more : List (List ℕ)) (least : ℕ) (c : Image) → HoldsFirst s ls least c
    → HoldsFirst s (ls ++ more) least c
more_lines s ls more least c x = record {
  front = x.front;
  rest = x.rest ++ more;
  parts = sym (append_assoc x.front x.rest more) ∙ ap (λ xs. xs ++ more) x.parts;
  least = x.least;
  rests = x.rests;
}

-- all of them
pub all_lines : (s : Shop) (ls : List (List ℕ)) (least : ℕ) (c : Image) → least ≤ length ls
    → IsSettled c (shop_behind s ls) → HoldsFirst s ls least c
all_lines s ls least c le rests = record { front = ls; rest = []; parts = append-nil ls; least = le; rests = rests }

-- lines before and behind a batch, at rest before it and behind it
pub record Around (s : Shop) (ls more : List (List ℕ)) (before behind : Image) : Type 0 where
  pub at_first : IsSettled before (shop_behind s ls)
  pub at_last : IsSettled behind (shop_behind s (ls ++ more))

module _ {L : Type 0} (h : LogHistory L) (s : Shop) (ls more : List (List ℕ)) (before behind : Image)
    (x : Around s ls more before behind) where
  -- an image of a batch's commit is that of first lines
  pub either_first : (least : ℕ) → least ≤ length ls → (c : Image) → IsEither before behind c
      → HoldsFirst s (ls ++ more) least c
  either_first least le c either = ⊎_elim
      (λ e. more_lines s ls more least c
      (all_lines s ls least c le (subst (λ (i : Image). IsSettled i (shop_behind s ls)) (sym e) x.at_first)))
      (λ e. all_lines s (ls ++ more) least c (omega (arith, le, length-append ls more))
      (subst (λ (i : Image). IsSettled i (shop_behind s (ls ++ more))) (sym e) x.at_last))
      either

  -- what was told before stays
  pub stay_on : (log now : L) (k : ℕ) (turns : List (Reply × L)) → k + length turns ≤ length ls
      → StayFrom h s ls k turns log → LeavesImages h log now (IsEither before behind)
      → StayFrom h s (ls ++ more) k turns now
  stay_on log now k [] le each leaves = tt
  stay_on log now k (t ∷ ts) le each leaves = (
    goes_on h t.1 log now (HoldsFirst s ls (k + 1)) (IsEither before behind) (HoldsFirst s (ls ++ more) (k + 1))
        each.0 leaves (λ c p. more_lines s ls more (k + 1) c p)
        (λ c either. either_first (k + 1) (omega (arith, le)) c either),
    stay_on log now (k + 1) ts (omega (arith, le)) each.1 leaves,
  )

  -- what is told now is there
  pub stay_new : (now : L) (k : ℕ) (rs : List Reply) → k + length rs ≤ length (ls ++ more)
      → h.stands_for now behind → StayFrom h s (ls ++ more) k (over_log now rs) now
  stay_new now k [] le stands = tt
  stay_new now k (r ∷ rs) le stands = (
    stays h now behind (HoldsFirst s (ls ++ more) (k + 1)) stands
        (all_lines s (ls ++ more) (k + 1) behind (omega (arith, le)) x.at_last),
    stay_new now (k + 1) rs (omega (arith, le)) stands,
  )

module _ {L : Type 0} (h : LogHistory L) (s : Shop) (ls : List (List ℕ)) (now : L) where
  -- replies behind replies
  pub stay_append : (k n : ℕ) (xs ys : List (Reply × L)) → n ≡ k + length xs → StayFrom h s ls k xs now
      → StayFrom h s ls n ys now → StayFrom h s ls k (xs ++ ys) now
  stay_append k n [] ys e first then =
      subst (λ (m : ℕ). StayFrom h s ls m ys now) (omega (arith, e)) then
  stay_append k n (x ∷ xs) ys e first then =
      (first.0, stay_append (k + 1) n xs ys (omega (arith, e)) first.1 then)

  pub stay_first : (k : ℕ) (xs ys : List (Reply × L)) → StayFrom h s ls k (xs ++ ys) now → StayFrom h s ls k xs now
  stay_first k [] ys each = tt
  stay_first k (x ∷ xs) ys each = (each.0, stay_first (k + 1) xs ys each.1)
