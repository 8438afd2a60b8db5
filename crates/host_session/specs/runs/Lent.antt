-- What is known of the replies that a borrowed writer was passed. All of it is our own.
use Rattle.std.specs.Prelude.{◌≡◌, ⊤, ℕ, List, Option, refl}
use Rattle.host_session.specs.declared.events.lines.LentReplies.{LentReplies}
use Rattle.host_session.specs.events.Telling.{Output}
use Rattle.host_session.specs.runs.Outputs.{written}

-- the same writer was passed these, as any writer is
abbrev pub written_to : {W : Type 0} → (W → Option (List ℕ)) → Output (LentReplies W)
written_to contents = record {
  told = λ old new turns. (new.out.ghost_name ≡ old.out.ghost_name)
      × (written contents).told old.out.now new.out.now turns;
  broken_off = λ old new turns last. (new.out.ghost_name ≡ old.out.ghost_name)
      × (written contents).broken_off old.out.now new.out.now turns last;
  is_handed_on = λ _. ⊤;
  room = λ _. 0;
  none = λ x. (refl, (written contents).none x.out.now);
}
