-- Over all that a client does in a run: what holds of it, and that one call numbers all messages of a turn.
use Rattle.std.proofs.Common.{◌≡◌, ℕ, ◌+◌, ◌-◌, ◌<◌, ◌≤◌, Bool, true, false, cond, List, [], ◌∷◌, ◌++◌, fold, Option}
use Rattle.std.proofs.Common.{Some, None, refl, sym, ap, ◌∙◌, subst}
use Rattle.std.proofs.lemmas.List.Sums.{fold-append}
use Rattle.qc_decl.specs.declared.declaration.Declaration.{Declaration}
use Rattle.qc_decl.specs.Vocabulary.{administrator, is_client, is_site, most_sites}
use Rattle.qc_msg.specs.declared.record.Record.{Record}
use Rattle.qc_msg.specs.declared.reply.Reply.{Reply}
use Rattle.qc_msg.specs.declared.step.Input.{Input}
use Rattle.qc_msg.specs.declared.turn.Posting.{Posting}
use Rattle.qc_msg.specs.declared.turn.Turn.{Turn}
use Rattle.qc_msg.specs.Vocabulary.{Deed, Takes, quiet, sends_of, tells_of, turn_deeds, writes_of}
use Rattle.qc_client.specs.declared.client.Client.{Client}
use Rattle.qc_client.specs.Vocabulary.{ClientMove, client_after, client_does, client_takes, sent, sent_one}
use Rattle.qc_site.specs.Vocabulary.{SiteMove, site_after, site_does, site_takes}
use Rattle.qc_core.specs.Vocabulary.{ActorMove, Acts, AreSteady, IsLawful, MayTake, actor_after, actor_sent}
use Rattle.qc_core.specs.Vocabulary.{actor_takes, by_client, by_site, is_running, posts, runs_at, runs_given, starts}
use Rattle.qc_core.specs.Vocabulary.{takes}
use Rattle.qc_core.proofs.ActorLaws.{at_client, at_site, other_client}
use Rattle.qc_core.proofs.ClientLands.{lands}
use Rattle.qc_core.proofs.ClientStands.{Stands, new_stands, runs_told, sends_all}
use Rattle.qc_core.proofs.Steady.{acts_steady, event_steady}

-- a client over the deeds of a turn

does_writes : (decl : Declaration) (m : ClientMove) (write : Option Record)
    → fold (client_does decl) m (writes_of write) ≡ m
does_writes decl m None = refl
does_writes decl m (Some written) = refl

does_tells : (decl : Declaration) (m : ClientMove) (told : Option Reply) → fold (client_does decl) m (tells_of told) ≡ m
does_tells decl m None = refl
does_tells decl m (Some reply) = refl

does_sends : (decl : Declaration) (m : ClientMove) (first : ℕ) (ps : List Posting)
    → fold (client_does decl) m (sends_of first ps) ≡ record m { client = sends_all m.client first ps }
does_sends decl m first [] = refl
does_sends decl m first (p ∷ ps) = does_sends decl (record m { client = sent_one m.client first p.to p.message })
    (first + 1) ps

pub does_turn : (decl : Declaration) (m : ClientMove) (first : ℕ) (turn : Turn)
    → fold (client_does decl) m (turn_deeds first turn) ≡ record m { client = sends_all m.client first turn.sends }
does_turn decl m first turn =
    fold-append (client_does decl) m (writes_of turn.write) (sends_of first turn.sends ++ tells_of turn.told)
    ∙ ap (λ (v : ClientMove). fold (client_does decl) v (sends_of first turn.sends ++ tells_of turn.told))
    (does_writes decl m turn.write)
    ∙ fold-append (client_does decl) m (sends_of first turn.sends) (tells_of turn.told)
    ∙ does_tells decl (fold (client_does decl) m (sends_of first turn.sends)) turn.told
    ∙ does_sends decl m first turn.sends

-- whether a command runs, over them

pub runs_writes : (r : Bool) (write : Option Record) → fold runs_at r (writes_of write) ≡ r
runs_writes r None = refl
runs_writes r (Some written) = refl

pub runs_sends : (r : Bool) (first : ℕ) (ps : List Posting) → fold runs_at r (sends_of first ps) ≡ r
runs_sends r first [] = refl
runs_sends r first (p ∷ ps) = runs_sends r (first + 1) ps

pub runs_tells : (r : Bool) (told : Option Reply) → fold runs_at r (tells_of told) ≡ runs_told r told
runs_tells r None = refl
runs_tells r (Some reply) = refl

pub runs_turn : (r : Bool) (first : ℕ) (turn : Turn) → fold runs_at r (turn_deeds first turn) ≡ runs_told r turn.told
runs_turn r first turn =
    fold-append runs_at r (writes_of turn.write) (sends_of first turn.sends ++ tells_of turn.told)
    ∙ ap (λ (v : Bool). fold runs_at v (sends_of first turn.sends ++ tells_of turn.told)) (runs_writes r turn.write)
    ∙ fold-append runs_at r (sends_of first turn.sends) (tells_of turn.told)
    ∙ ap (λ (v : Bool). fold runs_at v (tells_of turn.told)) (runs_sends r first turn.sends)
    ∙ runs_tells r turn.told

-- one input with its turn

module _ (decl : Declaration) (k : ℕ) (ds : List Deed) (g : Input) (first : ℕ) where
  abbrev move : ClientMove
  move = client_takes decl (client_after decl k ds).client g

  abbrev all : List Deed
  all = (ds ++ Takes g ∷ []) ++ turn_deeds first move.turn

  abbrev pub Here : Type 0
  Here = Stands decl (is_running ds) (client_after decl k ds).client

  taken : client_after decl k (ds ++ Takes g ∷ []) ≡ move
  taken = fold-append (client_does decl) _ ds (Takes g ∷ [])

  event : 0 < decl.sites → decl.sites ≤ most_sites → Here → MayTake ds g
      → client_after decl k all ≡ record move { client = sent move.client first }
  event some most st may =
      fold-append (client_does decl) _ (ds ++ Takes g ∷ []) (turn_deeds first move.turn)
      ∙ ap (λ (m : ClientMove). fold (client_does decl) m (turn_deeds first move.turn)) taken
      ∙ does_turn decl move first move.turn
      ∙ ap (λ (c : Client). record move { client = c })
      (lands decl ds (client_after decl k ds).client g first some most st may).once

  runs : is_running all ≡ runs_told (runs_given (is_running ds) g) move.turn.told
  runs =
      fold-append runs_at false (ds ++ Takes g ∷ []) (turn_deeds first move.turn)
      ∙ ap (λ (r : Bool). fold runs_at r (turn_deeds first move.turn)) (fold-append runs_at false ds (Takes g ∷ []))
      ∙ runs_turn (runs_given (is_running ds) g) first move.turn

  pub stands_on : 0 < decl.sites → decl.sites ≤ most_sites → Here → MayTake ds g
      → Stands decl (is_running all) (client_after decl k all).client
  stands_on some most st may =
      subst (λ (m : ClientMove). Stands decl (is_running all) m.client) (sym (event some most st may))
      (subst (λ (r : Bool). Stands decl r (sent move.client first)) (sym runs)
      (lands decl ds (client_after decl k ds).client g first some most st may).stands)

  pub sent_at_once : 0 < decl.sites → decl.sites ≤ most_sites → Here → MayTake ds g
      → (client_after decl k all).client ≡ sent move.client first
  sent_at_once some most st may = ap (λ (m : ClientMove). m.client) (event some most st may)

-- what is known of a client after its deeds: without an open input it stands; with one, it stood before, and might take
-- it

pub record IsOpen (decl : Declaration) (k : ℕ) (ds : List Deed) : Type 0 where
  pub before : List Deed
  pub input : Input
  pub deeds_are : ds ≡ before ++ Takes input ∷ []
  pub stood : Stands decl (is_running before) (client_after decl k before).client
  pub might : MayTake before input

abbrev pub Known : Declaration → ℕ → List Deed → Bool → Type 0
Known decl k ds false = Stands decl (is_running ds) (client_after decl k ds).client
Known decl k ds true = IsOpen decl k ds

-- a lawful turn is that of the client's last input
pub lawful_turn : (decl : Declaration) (a : ℕ) (ds : List Deed) (turn : Turn) → is_site decl a ≡ false
    → is_client decl a ≡ true → IsLawful decl a ds turn → (client_after decl (a - decl.sites) ds).turn ≡ turn
lawful_turn decl a ds turn no_site client lawful =
    let is : Some (client_after decl (a - decl.sites) ds).turn ≡ Some turn =
    sym (ap (λ (b : Bool). cond b (Some (site_after decl a ds).turn)
    (cond (is_client decl a) (Some (client_after decl (a - decl.sites) ds).turn) None)) no_site
    ∙ ap (λ (b : Bool). cond b (Some (client_after decl (a - decl.sites) ds).turn) None) client) ∙ lawful in
    cc

pub known : (decl : Declaration) (a : ℕ) (ds : List Deed) (b : Bool) (n : ℕ) → 0 < decl.sites → decl.sites ≤ most_sites
    → is_site decl a ≡ false → is_client decl a ≡ true → Acts decl a ds b n
    → Known decl (a - decl.sites) ds b
known decl a ds b n some most no_site client starts = new_stands decl (a - decl.sites)
known decl a ds b n some most no_site client (takes before g m acts may) = record {
  before = before;
  input = g;
  deeds_are = refl;
  stood = known decl a before false m some most no_site client acts;
  might = may;
}
known decl a ds b n some most no_site client (posts before turn m first acts above lawful) =
    ends (known decl a before true m some most no_site client acts)
  where
    ends : IsOpen decl (a - decl.sites) before
        → Stands decl (is_running (before ++ turn_deeds first turn))
        (client_after decl (a - decl.sites) (before ++ turn_deeds first turn)).client
    ends o =
        let now : client_after decl (a - decl.sites) before ≡ client_takes decl
        (client_after decl (a - decl.sites) o.before).client o.input =
        ap (client_after decl (a - decl.sites)) o.deeds_are
        ∙ fold-append (client_does decl) _ o.before (Takes o.input ∷ []) in
        let same : (client_takes decl (client_after decl (a - decl.sites) o.before).client o.input).turn ≡ turn =
        sym (ap (λ (m : ClientMove). m.turn) now) ∙ lawful_turn decl a before turn no_site client lawful in
        subst (λ (t : Turn). Stands decl (is_running (before ++ turn_deeds first t))
        (client_after decl (a - decl.sites) (before ++ turn_deeds first t)).client) same
        (subst (λ (xs : List Deed). Stands decl (is_running
        (xs ++ turn_deeds first (client_takes decl
        (client_after decl (a - decl.sites) o.before).client o.input).turn))
        (client_after decl (a - decl.sites) (xs ++ turn_deeds first
        (client_takes decl (client_after decl (a - decl.sites) o.before).client o.input).turn)).client)
        (sym o.deeds_are)
        (stands_on decl (a - decl.sites) o.before o.input first some most o.stood o.might))

-- a site keeps none of its messages

site_writes : (decl : Declaration) (m : SiteMove) (write : Option Record)
    → fold (site_does decl) m (writes_of write) ≡ m
site_writes decl m None = refl
site_writes decl m (Some written) = refl

site_tells : (decl : Declaration) (m : SiteMove) (told : Option Reply) → fold (site_does decl) m (tells_of told) ≡ m
site_tells decl m None = refl
site_tells decl m (Some reply) = refl

site_sends : (decl : Declaration) (m : SiteMove) (first : ℕ) (ps : List Posting)
    → fold (site_does decl) m (sends_of first ps) ≡ m
site_sends decl m first [] = refl
site_sends decl m first (p ∷ ps) = site_sends decl m (first + 1) ps

pub site_turn : (decl : Declaration) (m : SiteMove) (first : ℕ) (turn : Turn)
    → fold (site_does decl) m (turn_deeds first turn) ≡ m
site_turn decl m first turn =
    fold-append (site_does decl) m (writes_of turn.write) (sends_of first turn.sends ++ tells_of turn.told)
    ∙ ap (λ (v : SiteMove). fold (site_does decl) v (sends_of first turn.sends ++ tells_of turn.told))
    (site_writes decl m turn.write)
    ∙ fold-append (site_does decl) m (sends_of first turn.sends) (tells_of turn.told)
    ∙ ap (λ (v : SiteMove). fold (site_does decl) v (tells_of turn.told)) (site_sends decl m first turn.sends)
    ∙ site_tells decl m turn.told

-- any actor

pub requests_are_numbered_at_once : (decl : Declaration) (a : ℕ) (ds : List Deed) (n : ℕ) (g : Input) (first : ℕ)
    → 0 < decl.sites
    → decl.sites ≤ most_sites → a < administrator decl → Acts decl a ds false n → MayTake ds g
    → (actor_after decl a ((ds ++ Takes g ∷ []) ++ turn_deeds first
    (actor_takes decl (actor_after decl a ds).actor g).turn)).actor ≡ actor_sent
    (actor_takes decl (actor_after decl a ds).actor g).actor first
requests_are_numbered_at_once decl a ds n g first some most below acts may = by (is_site decl a) refl
  where
    steady : AreSteady ds
    steady = acts_steady decl a ds false n acts

    by : (b : Bool) → is_site decl a ≡ b → (actor_after decl a
        ((ds ++ Takes g ∷ []) ++ turn_deeds first (actor_takes decl (actor_after decl a ds).actor g).turn)).actor
        ≡ actor_sent (actor_takes decl (actor_after decl a ds).actor g).actor first
    by true is =
        subst (λ (m : ActorMove). (actor_after decl a
        ((ds ++ Takes g ∷ []) ++ turn_deeds first (actor_takes decl m.actor g).turn)).actor ≡ actor_sent
        (actor_takes decl m.actor g).actor first) (sym (at_site decl a ds steady is))
        (ap (λ (m : ActorMove). m.actor) (at_site decl a
        ((ds ++ Takes g ∷ []) ++ turn_deeds first (site_takes decl (site_after decl a ds).site g).turn)
        (event_steady ds g first (site_takes decl (site_after decl a ds).site g).turn steady) is)
        ∙ ap (λ (m : SiteMove). (by_site m).actor)
        (fold-append (site_does decl) _ (ds ++ Takes g ∷ [])
        (turn_deeds first (site_takes decl (site_after decl a ds).site g).turn)
        ∙ site_turn decl (site_after decl a (ds ++ Takes g ∷ [])) first
        (site_takes decl (site_after decl a ds).site g).turn
        ∙ fold-append (site_does decl) _ ds (Takes g ∷ [])))
    by false is =
        subst (λ (m : ActorMove). (actor_after decl a
        ((ds ++ Takes g ∷ []) ++ turn_deeds first (actor_takes decl m.actor g).turn)).actor ≡ actor_sent
        (actor_takes decl m.actor g).actor first)
        (sym (at_client decl a ds steady is (other_client decl a below is)))
        (ap (λ (m : ActorMove). m.actor) (at_client decl a
        ((ds ++ Takes g ∷ []) ++ turn_deeds first
        (client_takes decl (client_after decl (a - decl.sites) ds).client g).turn)
        (event_steady ds g first (client_takes decl (client_after decl (a - decl.sites) ds).client g).turn steady)
        is (other_client decl a below is))
        ∙ ap (λ (c : Client). (by_client (record { client = c; turn = quiet })).actor)
        (sent_at_once decl (a - decl.sites) ds g first some most
        (known decl a ds false n some most is (other_client decl a below is) acts) may))
