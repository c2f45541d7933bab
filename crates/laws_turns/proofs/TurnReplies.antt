-- A client waits only where a command runs, and tells a reply only there.
use Rattle.std.proofs.Common.{[], ◌≡◌, ℕ, ◌+◌, ◌&&◌, not, Bool, true, false, List, ◌∷◌, ◌++◌, Option, Some, None}
use Rattle.std.proofs.Common.{is_some, refl, sym, ap, ◌∙◌}
use Rattle.std.specs.List.{fold}
use Rattle.std.proofs.lemmas.List.Sums.{fold-append}
use Rattle.qc_core.specs.Vocabulary.{MayTake, is_running, runs_at, runs_given}
use Rattle.qc_decl.specs.declared.declaration.Declaration.{Declaration}
use Rattle.qc_msg.specs.declared.record.Record.{Record}
use Rattle.qc_msg.specs.declared.reply.Reply.{Reply}
use Rattle.qc_msg.specs.declared.step.Command.{Command}
use Rattle.qc_msg.specs.declared.step.Command.TheVariants as commands
use Rattle.qc_msg.specs.declared.step.Input.{Input}
use Rattle.qc_msg.specs.declared.step.Input.TheVariants as inputs
use Rattle.qc_msg.specs.declared.turn.Posting.{Posting}
use Rattle.qc_msg.specs.declared.turn.Turn.{Turn}
use Rattle.qc_msg.specs.Vocabulary.{Deed, Sends, Takes, quiet, sends_of, tells_of, turn_deeds, writes_of}
use Rattle.qc_client.specs.Vocabulary.{ClientMove, client_after, client_does, client_takes, moved, new_client}
use Rattle.laws_turns.specs.Vocabulary.{is_waiting}
use Rattle.laws_turns.proofs.Waiting.{Ends, IsNoCall, Rests, called_ends, epoch_rests, sent_waits, takes_ends}
use Rattle.laws_turns.proofs.Waiting.{takes_rests, are_clients}
use Rattle.laws_turns.proofs.ClientCases.{command_cases}

-- whether a command runs, as deeds go on

pub running_more : (ds more : List Deed) → is_running (ds ++ more) ≡ fold runs_at (is_running ds) more
running_more ds more = fold-append runs_at false ds more

running_sends : (r : Bool) (n : ℕ) (ps : List Posting) (told : Option Reply)
    → fold runs_at r (sends_of n ps ++ tells_of told) ≡ (r && not (is_some told))
running_sends true n [] None = refl
running_sends false n [] None = refl
running_sends true n [] (Some reply) = refl
running_sends false n [] (Some reply) = refl
running_sends r n (p ∷ ps) told = running_sends r (n + 1) ps told

pub running_turn : (r : Bool) (n : ℕ) (turn : Turn)
    → fold runs_at r (turn_deeds n turn) ≡ (r && not (is_some turn.told))
running_turn r n turn = by turn.write
  where
    by : (w : Option Record)
        → fold runs_at r (writes_of w ++ (sends_of n turn.sends ++ tells_of turn.told)) ≡ (r && not (is_some turn.told))
    by None = running_sends r n turn.sends turn.told
    by (Some written) = running_sends r n turn.sends turn.told

-- a client after what it takes, and after its turn

pub after_taken : (decl : Declaration) (k : ℕ) (ds : List Deed) (g : Input)
    → client_after decl k (ds ++ Takes g ∷ []) ≡ client_takes decl (client_after decl k ds).client g
after_taken decl k ds g = fold-append (client_does decl) (moved (new_client k) quiet) ds (Takes g ∷ [])

pub sends_wait : (decl : Declaration) (m : ClientMove) (n : ℕ) (ps : List Posting) (told : Option Reply)
    → is_waiting (fold (client_does decl) m (sends_of n ps ++ tells_of told)).client ≡ is_waiting m.client
sends_wait decl m n [] None = refl
sends_wait decl m n [] (Some reply) = refl
sends_wait decl m n (p ∷ ps) told =
    sends_wait decl (client_does decl m (Sends n p.to p.message)) (n + 1) ps told ∙ sent_waits m.client n p.to p.message

pub turn_waits : (decl : Declaration) (m : ClientMove) (n : ℕ) (turn : Turn)
    → is_waiting (fold (client_does decl) m (turn_deeds n turn)).client ≡ is_waiting m.client
turn_waits decl m n turn = by turn.write
  where
    by : (w : Option Record)
        → is_waiting (fold (client_does decl) m (writes_of w ++ (sends_of n turn.sends ++ tells_of turn.told))).client
        ≡ is_waiting m.client
    by None = sends_wait decl m n turn.sends turn.told
    by (Some written) = sends_wait decl m n turn.sends turn.told

pub after_posted : (decl : Declaration) (k : ℕ) (ds : List Deed) (n : ℕ) (turn : Turn)
    → is_waiting (client_after decl k (ds ++ turn_deeds n turn)).client ≡ is_waiting (client_after decl k ds).client
after_posted decl k ds n turn =
    ap (λ (m : ClientMove). is_waiting m.client)
    (fold-append (client_does decl) (moved (new_client k) quiet) ds (turn_deeds n turn))
    ∙ turn_waits decl (client_after decl k ds) n turn

-- a client waits only where a command runs, and tells a reply only there

pub record Replies (r : Bool) (m : ClientMove) : Type 0 where
  pub tells : is_some m.turn.told ≡ true → r ≡ true
  pub waits : (r && not (is_some m.turn.told)) ≡ false → is_waiting m.client ≡ false

never_told : (m : ClientMove) (r : Bool) → Rests m → Replies r m
never_told m r rests =
    record {
      tells = λ told. absurd
          (let none : is_some m.turn.told ≡ false = ap is_some rests.told in let never : ⊥ = cc in never);
      waits = λ is. rests.still;
    }

pub ended_waits : (told waits : Bool) → told ≡ not waits → (true && not told) ≡ false → waits ≡ false
ended_waits true true ends is = absurd (let never : ⊥ = cc in never)
ended_waits true false ends is = refl
ended_waits false waits ends is = absurd (let never : ⊥ = cc in never)

ends_replies : (m : ClientMove) (r : Bool) → r ≡ true → Ends m → Replies r m
ends_replies m r runs ends = record {
  tells = λ told. runs;
  waits =
      λ is. ended_waits (is_some m.turn.told) (is_waiting m.client) ends
      (ap (λ (t : Bool). t && not (is_some m.turn.told)) (sym runs) ∙ is);
}

called_replies : (decl : Declaration) (m : ClientMove) (command : Command) → is_waiting m.client ≡ false
    → Replies true (client_takes decl m.client (inputs.Called command))
called_replies decl m command still =
    command_cases (λ (command : Command). Replies true (client_takes decl m.client (inputs.Called command)))
    (λ command none. ends_replies (client_takes decl m.client (inputs.Called command)) true refl
    (called_ends decl m.client command (are_clients command none) still))
    (λ number. never_told (client_takes decl m.client (inputs.Called (commands.Epoch number))) true
    (epoch_rests decl m.client number still)) command

other_replies : (decl : Declaration) (m : ClientMove) (g : Input) (r : Bool) → IsNoCall g
    → (r ≡ false → is_waiting m.client ≡ false) → Replies r (client_takes decl m.client g)
other_replies decl m g r none only = by (is_waiting m.client) refl
  where
    runs : (t : Bool) → (t ≡ false → is_waiting m.client ≡ false) → is_waiting m.client ≡ true → t ≡ true
    runs true rest busy = refl
    runs false rest busy = absurd (let still : is_waiting m.client ≡ false = rest refl in let never : ⊥ = cc in never)

    by : (w : Bool) → is_waiting m.client ≡ w → Replies r (client_takes decl m.client g)
    by true busy =
        ends_replies (client_takes decl m.client g) r (runs r only busy) (takes_ends decl m.client g none busy)
    by false still = never_told (client_takes decl m.client g) r (takes_rests decl m.client g none still)

pub given_replies : (decl : Declaration) (m : ClientMove) (ds : List Deed) (g : Input) → MayTake ds g
    → (is_running ds ≡ false → is_waiting m.client ≡ false)
    → Replies (runs_given (is_running ds) g) (client_takes decl m.client g)
given_replies decl m ds (inputs.Called command) may only = called_replies decl m command (only may)
given_replies decl m ds (inputs.Got envelope) may only =
    other_replies decl m (inputs.Got envelope) (is_running ds) tt only
given_replies decl m ds (inputs.Lost number) may only =
    other_replies decl m (inputs.Lost number) (is_running ds) tt only
