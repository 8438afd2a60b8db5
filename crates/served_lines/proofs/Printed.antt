-- Replies that are printed, byte by byte.
use Rattle.std.proofs.Common.{◌≡◌, ◌≤◌, ◌+◌, ◌∙◌, ℕ, List, [], ◌∷◌, ◌++◌, ap, append-nil, append_assoc, arith, drop, ◌-◌, length, refl, sym, take, Result, Ok}
use Rattle.std.specs.Prelude.{codes}
use Rattle.std.proofs.lemmas.List.{length-drop, take_all}
use Rattle.std.proofs.Math.Seq.{take-add}
use Rattle.one_host.specs.Worlds.{World}
use Rattle.one_host.specs.History.{HeldOnly, HostHistory, Since, Until}
use Rattle.one_host.specs.Calls.{IsPrinted, Steps, at_once, printed}
use Rattle.one_host.specs.declared.parts.Failure.{Failure}
use Rattle.one_host.specs.declared.parts.Stream.TheVariants.{Output}
use Rattle.one_host.proofs.Moments.{after, moments}
use Rattle.request_cards.specs.Ledgers.{report}
use Rattle.request_cards.specs.Texts.{reply_text}
use Rattle.request_cards.specs.declared.reply.Reply.{Reply}
use Rattle.served_lines.specs.Printings.{OnlySaid, has_said}

pub report_more : (rs : List Reply) (r : Reply) → report (rs ++ r ∷ []) ≡ report rs ++ report (r ∷ [])
report_more [] r = refl
report_more (x ∷ rs) r = ap (λ (l : List ℕ). reply_text x ++ codes "\n" ++ l) (report_more rs r)
    ∙ sym (append_assoc (reply_text x ++ codes "\n") (report rs) (report (r ∷ [])))

-- texts behind each other
said_more : (v : World) (text : List ℕ) (at count : ℕ)
    → printed (has_said v (take at text)) Output (take count (drop at text)) ≡ has_said v (take (at + count) text)
said_more v text at count = ap (λ (l : List ℕ). record v { said = l })
    (append_assoc v.said (take at text) (take count (drop at text)) ∙ ap (λ (l : List ℕ). v.said ++ l) (sym (take-add at count text)))

pub said_none : (v : World) (text : List ℕ) → v ≡ has_said v (take 0 text)
said_none v text = ap (λ (l : List ℕ). record v { said = l }) (sym (append-nil v.said))

pub said_whole : (v w : World) (text : List ℕ) (at : ℕ) → length text ≤ at → w ≡ has_said v (take at text) → w ≡ has_said v text
said_whole v w text at le is = is ∙ ap (has_said v) (take_all at text le)

hands_of : (u v w : World) → v ≡ w → w.hands ≡ u.hands → v.hands ≡ u.hands
hands_of u v w is same = ap (λ (x : World). x.hands) is ∙ same

-- one call
module _ {H : Type 0} (S : HostHistory H) (a b : H) (n : ℕ) (v : World) (text : List ℕ) (at : ℕ)
    (since : Since n (λ w. w ≡ has_said v (take at text)) (S.world a)) where
  -- what is left is handed to the call
  abbrev rest : List ℕ
  rest = take (length text - at) (drop at text)

  rest_is : rest ≡ drop at text
  rest_is = take_all (length text - at) (drop at text) (omega (arith, length-drop at text))

  on : (x : ℕ) (u w : World) → u ≡ has_said v (take at text) → IsPrinted Output rest x u w → w ≡ has_said v (take (at + x) text)
  on x u w is d = d.1 ∙ ap (λ (l : List ℕ). printed u Output (take x l)) rest_is
      ∙ ap (λ (y : World). printed y Output (take x (drop at text))) is ∙ said_more v text at x

  pub print_moments : (r : Result ℕ Failure) → Steps S a b (IsPrinted Output rest) at_once r → HeldOnly S a b (Until n (OnlySaid v text))
  print_moments r c = moments S a b n (λ w. w ≡ has_said v (take at text)) since (IsPrinted Output rest) at_once
      (λ x u w d. hands_of u w _ d.1 refl) (λ u w never. absurd never) (OnlySaid v text) (λ u is. record { count = at; is = is })
      (λ u w _ never. absurd never) (λ x u w is d. record { count = at + x; is = on x u w is d }) r c

  pub print_after : (x : ℕ) → Steps S a b (IsPrinted Output rest) at_once (Ok x) → Since n (λ w. w ≡ has_said v (take (at + x) text)) (S.world b)
  print_after x c = after S a b n (λ w. w ≡ has_said v (take at text)) since (IsPrinted Output rest) at_once
      (λ x u w d. hands_of u w _ d.1 refl) (λ u w never. absurd never) (λ w. w ≡ has_said v (take (at + x) text)) x (λ u w is d. on x u w is d) c
