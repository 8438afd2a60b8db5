-- A line more that is handled over memory.
use Rattle.std.proofs.Common.{◌≡◌, ◌∙◌, ℕ, List, [], ◌∷◌, ◌++◌, ap, subst, sym}
use Rattle.request_cards.specs.declared.reply.Reply.{Reply}
use Rattle.host_session.specs.session.Standing.{View}
use Rattle.host_session.specs.shop.Shop.{Shop}
use Rattle.line_server.specs.logged.Handling.{AreHandled, IsAtRest, IsHandledWell, replies_after, shop_after}
use Rattle.line_server.specs.logged.Memory.{Memory}
use Rattle.line_server.proofs.lemmas.logged.Lines.{after_push, none_first, none_last, replies_push}

pub one_more : (old mid new : View Memory) (ls : List (List ℕ)) (line : List ℕ) (rs : List Reply) (r : Reply)
    → AreHandled old mid ls rs → IsHandledWell mid new line r → AreHandled old new (ls ++ line ∷ []) (rs ++ r ∷ [])
one_more old mid new ls line rs r a b = record {
  told = λ s x.
      let was = a.told s x in
      let now = b.told (shop_after s ls) was.1 in (
        ap (λ qs. qs ++ r ∷ []) was.0 ∙ ap (λ (q : Reply). replies_after s ls ++ q ∷ []) now.0
            ∙ sym (replies_push s ls line),
        subst (λ (t : Shop). IsAtRest new t) (sym (after_push s ls line)) now.1,
      );
  marks = λ s x before covers. b.marks (shop_after s ls) (a.told s x).1 before (a.marks s x before covers);
  files = λ s x whole. b.files (shop_after s ls) (a.told s x).1 (a.files s x whole);
  quiet = λ s x none.
      let same : mid ≡ old = a.quiet s x (none_first s ls (line ∷ []) none) in
      b.quiet s (subst (λ (v : View Memory). IsAtRest v s) (sym same) x) (none_last s ls (line ∷ []) none).0 ∙ same;
}
