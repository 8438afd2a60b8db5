-- Lines handled one after another, and the shop and the replies that a list of requests stands for.
use Rattle.std.proofs.Common.{◌≡◌, ◌∙◌, ℕ, List, [], ◌∷◌, ◌++◌, Option, None, Some, ap, append-nil, append_assoc, map, refl, sym, subst}
use Rattle.std.specs.Prelude.{option_to_list}
use Rattle.std.proofs.lemmas.Grind.{flat_map-append}
use Rattle.std.specs.Prelude.{false}
use Rattle.request_cards.proofs.Plain.{message_more, plain_nil}
use Rattle.request_cards.specs.Ledgers.{State, after_message, plain, replies, reply_in}
use Rattle.request_cards.specs.Reading.{request_of}
use Rattle.request_cards.specs.Requests.{Ask}
use Rattle.request_cards.specs.declared.reply.Reply.{Reply}
use Rattle.host_session.specs.events.Events.{requests_of}
use Rattle.host_session.specs.session.Handling.{after_of, is_next_request}
use Rattle.host_session.specs.shop.Shop.{Shop, start_of, with_state}
use Rattle.line_server.specs.Batches.{AreSame}
use Rattle.line_server.specs.logged.Handling.{AskNone, replies_after, shop_after}
use Rattle.line_server.specs.logged.Serves.{shop_behind}

-- lists that begin alike go on alike
first_same : (x y : Option Ask) (xs ys : List (Option Ask)) → x ∷ xs ≡ y ∷ ys → x ≡ y
first_same x y xs ys e = cc

rest_same : (x y : Option Ask) (xs ys : List (Option Ask)) → x ∷ xs ≡ y ∷ ys → xs ≡ ys
rest_same x y xs ys e = cc

none_same : (x : Option Ask) (xs : List (Option Ask)) → [] ≡ x ∷ xs → ⊥
none_same x xs e = cc

-- the shop after a request, as its reply, looks at the limits alone
limits_after : (s : Shop) (state : State) (o : Option Ask)
    → after_message (start_of (with_state s state)) state o ≡ after_message (start_of s) state o
limits_after s state None = refl
limits_after s state (Some a) = refl

limits_reply : (s : Shop) (state : State) (o : Option Ask)
    → reply_in (start_of (with_state s state)) state o ≡ reply_in (start_of s) state o
limits_reply s state None = refl
limits_reply s state (Some a) = refl

-- the shop after lines and one more
behind_one : (s : Shop) (before : List Ask) (l : List ℕ)
    → after_of (with_state s (plain (start_of s) before)) l
    ≡ with_state s (plain (start_of s) (before ++ option_to_list (request_of l)))
behind_one s before l =
    ap (with_state s) (limits_after s (plain (start_of s) before) (request_of l)
    ∙ sym (message_more (start_of s) before (request_of l)))

after_from : (s : Shop) (before : List Ask) (ls : List (List ℕ))
    → shop_after (with_state s (plain (start_of s) before)) ls
    ≡ with_state s (plain (start_of s) (before ++ requests_of ls))
after_from s before [] = ap (λ asks. with_state s (plain (start_of s) asks)) (sym (append-nil before))
after_from s before (l ∷ ls) =
    ap (λ t. shop_after t ls) (behind_one s before l)
    ∙ after_from s (before ++ option_to_list (request_of l)) ls
    ∙ ap (λ asks. with_state s (plain (start_of s) asks)) (append_assoc before (option_to_list (request_of l)) (requests_of ls))

-- lines behind lines
pub behind_more : (s : Shop) (front ls : List (List ℕ)) → shop_after (shop_behind s front) ls ≡ shop_behind s (front ++ ls)
behind_more s front ls =
    after_from s (requests_of front) ls
    ∙ ap (λ asks. with_state s (plain (start_of s) asks))
    (sym (flat_map-append (λ l. option_to_list (request_of l)) front ls))

pub behind_none : (s : Shop) → shop_behind s [] ≡ s
behind_none s = ap (with_state s) (plain_nil (start_of s))

replies_from_here : (s : Shop) (before : List Ask) (ls : List (List ℕ))
    → replies (start_of s) before ls ≡ replies_after (with_state s (plain (start_of s) before)) ls
replies_from_here s before [] = refl
replies_from_here s before (l ∷ ls) =
    let state : State = plain (start_of s) before in
    let tail : List Reply = replies_after (after_of (with_state s state) l) ls in
    ap (λ rs. reply_in (start_of s) state (request_of l) ∷ rs)
    (replies_from_here s (before ++ option_to_list (request_of l)) ls
    ∙ ap (λ t. replies_after t ls) (sym (behind_one s before l)))
    ∙ ap (λ (r : Reply). r ∷ tail) (sym (limits_reply s state (request_of l)))

replies_more_from : (s : Shop) (before : List Ask) (front ls : List (List ℕ))
    → replies (start_of s) before (front ++ ls)
    ≡ replies (start_of s) before front ++ replies (start_of s) (before ++ requests_of front) ls
replies_more_from s before [] ls = ap (λ asks. replies (start_of s) asks ls) (sym (append-nil before))
replies_more_from s before (l ∷ front) ls =
    let one : List Ask = option_to_list (request_of l) in
    let head : Reply = reply_in (start_of s) (plain (start_of s) before) (request_of l) in
    let first : List Reply = replies (start_of s) (before ++ one) front in
    ap (λ rs. head ∷ rs)
    (replies_more_from s (before ++ one) front ls
    ∙ ap (λ asks. first ++ replies (start_of s) asks ls)
    (append_assoc before one (requests_of front)))

-- the replies to lines behind lines
pub replies_more : (s : Shop) (front ls : List (List ℕ))
    → replies (start_of s) [] (front ++ ls) ≡ replies (start_of s) [] front ++ replies_after (shop_behind s front) ls
replies_more s front ls =
    let first : List Reply = replies (start_of s) [] front in
    replies_more_from s [] front ls
    ∙ ap (λ rs. first ++ rs) (replies_from_here s (requests_of front) ls)

-- lines that are the same requests come to the same
pub same_after : (s : Shop) (kept ls : List (List ℕ)) → AreSame kept ls → shop_after s kept ≡ shop_after s ls
same_after s [] [] e = refl
same_after s [] (l ∷ ls) e = absurd (none_same (request_of l) (map request_of ls) e)
same_after s (k ∷ ks) [] e = absurd (none_same (request_of k) (map request_of ks) (sym e))
same_after s (k ∷ ks) (l ∷ ls) e =
    same_after (after_of s k) ks ls (rest_same (request_of k) (request_of l) (map request_of ks) (map request_of ls) e)
    ∙ ap (λ o. shop_after (with_state s (after_message (start_of s) s.state o)) ls)
    (first_same (request_of k) (request_of l) (map request_of ks) (map request_of ls) e)

pub same_replies : (s : Shop) (kept ls : List (List ℕ)) → AreSame kept ls → replies_after s kept ≡ replies_after s ls
same_replies s [] [] e = refl
same_replies s [] (l ∷ ls) e = absurd (none_same (request_of l) (map request_of ls) e)
same_replies s (k ∷ ks) [] e = absurd (none_same (request_of k) (map request_of ks) (sym e))
same_replies s (k ∷ ks) (l ∷ ls) e =
    let first : List Reply = reply_in (start_of s) s.state (request_of k) ∷ [] in
    ap (λ rs. first ++ rs) (same_replies (after_of s k) ks ls
    (rest_same (request_of k) (request_of l) (map request_of ks) (map request_of ls) e))
    ∙ ap (λ o. reply_in (start_of s) s.state o ∷ replies_after (with_state s (after_message (start_of s) s.state o)) ls)
    (first_same (request_of k) (request_of l) (map request_of ks) (map request_of ls) e)

pub same_none : (s : Shop) (kept ls : List (List ℕ)) → AreSame kept ls → AskNone s ls → AskNone s kept
same_none s [] ls e none = tt
same_none s (k ∷ ks) [] e none = absurd (none_same (request_of k) (map request_of ks) (sym e))
same_none s (k ∷ ks) (l ∷ ls) e none = (
  subst (λ o. is_next_request s o ≡ false)
      (sym (first_same (request_of k) (request_of l) (map request_of ks) (map request_of ls) e)) none.0,
  same_none s ks ls (rest_same (request_of k) (request_of l) (map request_of ks) (map request_of ls) e) none.1,
)

-- of lines that ask nothing new, neither do the first of them, nor the others
pub none_first : (s : Shop) (xs ys : List (List ℕ)) → AskNone s (xs ++ ys) → AskNone s xs
none_first s [] ys none = tt
none_first s (x ∷ xs) ys none = (none.0, none_first s xs ys none.1)

pub none_last : (s : Shop) (xs ys : List (List ℕ)) → AskNone s (xs ++ ys) → AskNone s ys
none_last s [] ys none = none
none_last s (x ∷ xs) ys none = none_last s xs ys none.1

-- lines and one more
pub after_push : (s : Shop) (ls : List (List ℕ)) (l : List ℕ) → shop_after s (ls ++ l ∷ []) ≡ after_of (shop_after s ls) l
after_push s [] l = refl
after_push s (x ∷ ls) l = after_push (after_of s x) ls l

pub replies_push : (s : Shop) (ls : List (List ℕ)) (l : List ℕ) → replies_after s (ls ++ l ∷ [])
    ≡ replies_after s ls ++ reply_in (start_of (shop_after s ls)) (shop_after s ls).state (request_of l) ∷ []
replies_push s [] l = refl
replies_push s (x ∷ ls) l =
    ap (λ (rs : List Reply). reply_in (start_of s) s.state (request_of x) ∷ rs) (replies_push (after_of s x) ls l)
