-- A request is made of the parts that were read, and of none where one isn't there.
use Rattle.std.proofs.Common.{◌≡◌, ℕ, List, None, Option, Some, refl}
use Rattle.request_cards.specs.declared.kind.Kind.{Kind}
use Rattle.request_cards.specs.Requests.{Ask}
use Rattle.request_cards.specs.Reading.{amounts, kind_before, request_of}
use Rattle.line_text.specs.Numbers.{number_before}

pub made_of : (bytes : List ℕ) (till number : ℕ) (kind : Kind) (item quantity to : ℕ)
    (after_till after_number after_kind after_item : List ℕ)
    → Some (till, after_till) ≡ number_before 1 64 bytes → Some (number, after_number) ≡ number_before 1 999999999
    after_till
    → Some (kind, after_kind) ≡ kind_before after_number → Some (item, after_item) ≡ number_before 1 65535 after_kind
    → Some (quantity, to) ≡ amounts kind item after_item
    → ◌≡◌ {A = Option Ask}
    (Some (record {
      till = till;
      number = number;
      body = record {
        kind = kind;
        item = item;
        quantity = quantity;
        to = to;
      };
    })) (request_of bytes)
unfolding request_of
made_of bytes till number kind item quantity to after_till after_number after_kind after_item e1 e2 e3 e4 e5 =
    rw (← e1, ← e2, ← e3, ← e4, ← e5) refl

pub no_till : (bytes : List ℕ) → None ≡ number_before 1 64 bytes → None ≡ request_of bytes
unfolding request_of
no_till bytes e1 = rw (← e1) refl

pub no_number : (bytes : List ℕ) (till : ℕ) (after_till : List ℕ) → Some (till, after_till) ≡ number_before 1 64 bytes
    → None ≡ number_before 1 999999999 after_till → None ≡ request_of bytes
unfolding request_of
no_number bytes till after_till e1 e2 = rw (← e1, ← e2) refl

pub no_kind : (bytes : List ℕ) (till number : ℕ) (after_till after_number : List ℕ)
    → Some (till, after_till) ≡ number_before 1 64 bytes
    → Some (number, after_number) ≡ number_before 1 999999999 after_till → None ≡ kind_before after_number
    → None ≡ request_of bytes
unfolding request_of
no_kind bytes till number after_till after_number e1 e2 e3 = rw (← e1, ← e2, ← e3) refl

pub no_item : (bytes : List ℕ) (till number : ℕ) (kind : Kind) (after_till after_number after_kind : List ℕ)
    → Some (till, after_till) ≡ number_before 1 64 bytes
    → Some (number, after_number) ≡ number_before 1 999999999 after_till
    → Some (kind, after_kind) ≡ kind_before after_number → None ≡ number_before 1 65535 after_kind
    → None ≡ request_of bytes
unfolding request_of
no_item bytes till number kind after_till after_number after_kind e1 e2 e3 e4 = rw (← e1, ← e2, ← e3, ← e4) refl

pub no_amounts : (bytes : List ℕ) (till number : ℕ) (kind : Kind) (item : ℕ)
    (after_till after_number after_kind after_item : List ℕ)
    → Some (till, after_till) ≡ number_before 1 64 bytes
    → Some (number, after_number) ≡ number_before 1 999999999 after_till
    → Some (kind, after_kind) ≡ kind_before after_number → Some (item, after_item) ≡ number_before 1 65535 after_kind
    → None ≡ amounts kind item after_item → None ≡ request_of bytes
unfolding request_of
no_amounts bytes till number kind item after_till after_number after_kind after_item e1 e2 e3 e4 e5 =
    rw (← e1, ← e2, ← e3, ← e4, ← e5) refl
