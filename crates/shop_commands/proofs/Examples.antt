-- Worked examples, computed by the checker. Each is named by what it shows.
use Rattle.std.proofs.Common.{◌≡◌, ◌++◌, refl, Some, None}
use Rattle.std.specs.Prelude.{codes}
use Rattle.std.specs.Fmt.{digits}
use Rattle.request_cards.specs.declared.answer.Answer.TheVariants.{Done, Moved}
use Rattle.request_cards.specs.declared.kind.Kind.TheVariants.{Issue, Move}
use Rattle.request_cards.specs.Ledgers.{State}
use Rattle.request_cards.specs.Trade.{put}
use Rattle.command_faults.specs.Faults.{command_status, command_text}
use Rattle.shop_commands.specs.Shows.{shown_shop, told_part, up_to}
use Rattle.shop_commands.specs.Faults.{dry_text}
use Rattle.shop_commands.specs.declared.dry_run.DryFault.TheVariants as dry
use Rattle.command_faults.specs.declared.faults.CommandFault.TheVariants as faults

pub bad_line_is_told_with_its_number : dry_text (dry.BadLine 120) ≡ codes "SCRIPT LINE 120"
unfolding digits
bad_line_is_told_with_its_number = refl

pub want_of_memory_isnt_a_file : command_status faults.NoMemory ≡ 3
want_of_memory_isnt_a_file = refl

pub faults_of_an_opening_are_told_so :
    command_text (faults.BadCard 15) ++ codes ", " ++ command_text (faults.BadRequestCard 64) ++ codes ", " ++ command_text
    faults.TwoIntents
    ≡ codes "BAD CARD 15, BAD REQUEST CARD 64, TWO INTENTS"
unfolding digits
faults_of_an_opening_are_told_so = refl

pub moved_goods_name_both_items :
    told_part (codes "TILL ")
    (Some (
      record { till = 1; number = 3; body = record { kind = Move; item = 1; quantity = 4; to = 15 } },
      Moved 6
          7,
    ))
    ≡ codes "TILL 1,3,M,1,4,15,DONE,6,7\n"
unfolding digits
moved_goods_name_both_items = refl

-- one card, and a till with two requests
abbrev shop : State
shop = record {
  ledger = record {
    cards = put (λ _. None) 42 (Some 100);
    kept = put (λ _. None) 1
        (Some (record {
          number = 4;
          body = record { kind = Issue; item = 42; quantity = 20; to = 0 };
          answer =
              Done 100;
        }));
  };
  prior = put (λ _. None) 1
      (Some (record {
        number = 3;
        body = record { kind = Issue; item = 42; quantity = 5; to = 0 };
        answer =
            Done 120;
      }));
}

pub a_shop_is_shown_so :
    shown_shop 9256 shop ≡ codes "TOP 9256\nCARD 42,100\nTILL 1,4,I,42,20,DONE,100\nPRIOR 1,3,I,42,5,DONE,120\n"
unfolding shown_shop up_to digits
a_shop_is_shown_so = refl
