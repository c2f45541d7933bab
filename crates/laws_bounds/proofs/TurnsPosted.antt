-- What a turn's deeds leave: whether a command runs, and what an actor is.
use Rattle.std.proofs.Common.{◌≡◌, ℕ, ◌+◌, Bool, false, List, [], ◌∷◌, ◌++◌, fold, Option, Some, None, refl, ap, ◌∙◌}
use Rattle.std.proofs.lemmas.List.Sums.{fold-append}
use Rattle.qc_client.specs.Vocabulary.{ClientMove}
use Rattle.qc_core.specs.declared.actor.Actor.TheVariants as actors
use Rattle.qc_core.specs.Vocabulary.{ActorMove, actor_does, by_admin, by_client, by_site, is_running, moved, runs_at}
use Rattle.qc_core.specs.Vocabulary.{runs_given}
use Rattle.qc_core.proofs.ActorSent.{does_turn, runs_turn}
use Rattle.qc_core.proofs.ClientStands.{runs_told, sends_all}
use Rattle.qc_core.proofs.Steady.{turn_steady}
use Rattle.qc_decl.specs.declared.declaration.Declaration.{Declaration}
use Rattle.qc_msg.specs.declared.record.Record.{Record}
use Rattle.qc_msg.specs.declared.reply.Reply.{Reply}
use Rattle.qc_msg.specs.declared.step.Input.{Input}
use Rattle.qc_msg.specs.declared.turn.Posting.{Posting}
use Rattle.qc_msg.specs.declared.turn.Turn.{Turn}
use Rattle.qc_msg.specs.Vocabulary.{Deed, Takes, sends_of, tells_of, turn_deeds, writes_of}
use Rattle.qc_admin.specs.Vocabulary.{sent_each}
use Rattle.qc_epoch.specs.Vocabulary.{AdminMove, sent_one}
use Rattle.qc_site.specs.Vocabulary.{SiteMove}
use Rattle.qc_core.proofs.ActorLaws.{clients}

-- whether a command runs, over a turn's deeds

pub runs_event : (ds : List Deed) (g : Input) (first : ℕ) (turn : Turn)
    → is_running ((ds ++ Takes g ∷ []) ++ turn_deeds first turn) ≡ runs_told (runs_given (is_running ds) g) turn.told
runs_event ds g first turn =
    fold-append runs_at false (ds ++ Takes g ∷ []) (turn_deeds first turn)
    ∙ ap (λ (r : Bool). fold runs_at r (turn_deeds first turn)) (fold-append runs_at false ds (Takes g ∷ []))
    ∙ runs_turn (runs_given (is_running ds) g) first turn

-- a site's state, and that it is down, don't change as a turn is posted; of the others, the numbers of their messages

module _ (decl : Declaration) (a : ℕ) where
  abbrev Does : ActorMove → List Deed → ActorMove
  Does m ds = fold (actor_does decl a) m ds

  writes_keep : (m : ActorMove) (write : Option Record) → Does m (writes_of write) ≡ m
  writes_keep m None = refl
  writes_keep m (Some written) = refl

  tells_keep : (m : ActorMove) (told : Option Reply) → Does m (tells_of told) ≡ m
  tells_keep m None = refl
  tells_keep m (Some reply) = refl

  site_sends : (m : SiteMove) (first : ℕ) (ps : List Posting) → Does (by_site m) (sends_of first ps) ≡ by_site m
  site_sends m first [] = refl
  site_sends m first (p ∷ ps) = site_sends m (first + 1) ps

  down_sends : (t : Turn) (first : ℕ) (ps : List Posting)
      → Does (moved actors.Down t) (sends_of first ps) ≡ moved actors.Down t
  down_sends t first [] = refl
  down_sends t first (p ∷ ps) = down_sends t (first + 1) ps

  turn_parts : (m : ActorMove) (first : ℕ) (turn : Turn)
      → Does m (turn_deeds first turn) ≡ Does (Does m (sends_of first turn.sends)) (tells_of turn.told)
  turn_parts m first turn =
      fold-append (actor_does decl a) m (writes_of turn.write) (sends_of first turn.sends ++ tells_of turn.told)
      ∙ ap (λ (v : ActorMove). Does v (sends_of first turn.sends ++ tells_of turn.told)) (writes_keep m turn.write)
      ∙ fold-append (actor_does decl a) m (sends_of first turn.sends) (tells_of turn.told)

  pub site_turn : (m : SiteMove) (first : ℕ) (turn : Turn) → Does (by_site m) (turn_deeds first turn) ≡ by_site m
  site_turn m first turn =
      turn_parts (by_site m) first turn
      ∙ ap (λ (v : ActorMove). Does v (tells_of turn.told)) (site_sends m first turn.sends)
      ∙ tells_keep (by_site m) turn.told

  pub down_turn : (t : Turn) (first : ℕ) (turn : Turn)
      → Does (moved actors.Down t) (turn_deeds first turn) ≡ moved actors.Down t
  down_turn t first turn =
      turn_parts (moved actors.Down t) first turn
      ∙ ap (λ (v : ActorMove). Does v (tells_of turn.told)) (down_sends t first turn.sends)
      ∙ tells_keep (moved actors.Down t) turn.told

  admin_sends : (m : AdminMove) (first : ℕ) (ps : List Posting)
      → Does (by_admin m) (sends_of first ps) ≡ by_admin (record m { admin = sent_each m.admin first ps })
  admin_sends m first [] = refl
  admin_sends m first (p ∷ ps) =
      admin_sends (record m { admin = sent_one m.admin first p.to p.message }) (first + 1) ps

  pub admin_turn : (m : AdminMove) (first : ℕ) (turn : Turn)
      → Does (by_admin m) (turn_deeds first turn) ≡ by_admin (record m { admin = sent_each m.admin first turn.sends })
  admin_turn m first turn =
      turn_parts (by_admin m) first turn
      ∙ ap (λ (v : ActorMove). Does v (tells_of turn.told)) (admin_sends m first turn.sends)
      ∙ tells_keep (by_admin (record m { admin = sent_each m.admin first turn.sends })) turn.told

  pub client_turn : (m : ClientMove) (first : ℕ) (turn : Turn)
      → Does (by_client m) (turn_deeds first turn) ≡ by_client
      (record m { client = sends_all m.client first turn.sends })
  client_turn m first turn =
      clients decl a m (turn_deeds first turn) (turn_steady first turn)
      ∙ ap (λ (v : ClientMove). by_client v) (does_turn decl m first turn)
