-- Through falls and rises a client, and the administrator, stand as their calls rely on, and what a site holds is of
-- clients.
use Rattle.std.proofs.Common.{◌≡◌, ◌⊎◌, ℕ, ◌-◌, ◌<◌, Bool, true, false, List, [], ◌∷◌, ◌++◌, fold, Option, Some, None}
use Rattle.std.proofs.Common.{inl, inr, refl, sym, ap, ◌∙◌, subst, append_assoc}
use Rattle.std.specs.List.{AllByRecursion as Every}
use Rattle.std.proofs.lemmas.List.Sums.{fold-append}
use Rattle.qc_list.specs.Vocabulary.{In}
use Rattle.qc_list.proofs.Members.{In-more, every-In}
use Rattle.qc_client.specs.declared.client.Client.{Client}
use Rattle.qc_admin.specs.Vocabulary.{AdminFits, AdminHolds, GivenFits, IsNumberedAtOnce}
use Rattle.qc_admin.proofs.AtOnce.{takes_now}
use Rattle.qc_admin.proofs.Fitting.{sent_fits, takes_fit}
use Rattle.qc_epoch.specs.Vocabulary.{Admin, admin_takes}
use Rattle.qc_client.specs.Vocabulary.{client_takes}
use Rattle.qc_core.specs.declared.actor.Actor.{Actor}
use Rattle.qc_core.specs.declared.actor.Actor.TheVariants as actors
use Rattle.qc_core.specs.Vocabulary.{ActorMove, IsFrom, IsLawfulWithFalls, Lives, MayTake, actor_after, actor_does}
use Rattle.qc_core.specs.Vocabulary.{actor_rises, actor_takes, by_admin, by_client, down_takes, is_running, new_actor}
use Rattle.qc_core.specs.Vocabulary.{runs_at, runs_given, with_record}
use Rattle.qc_core.specs.Lives as lives
use Rattle.qc_core.proofs.PostsByTurns.{called_turn}
use Rattle.qc_core.proofs.ClientLands.{lands}
use Rattle.qc_core.proofs.ClientReaches.{AskedFit, ClientReach, client_reach, new_asked, no_sites, sent_asked}
use Rattle.qc_core.proofs.ClientStands.{Lands, Stands, new_stands, runs_told}
use Rattle.qc_core.proofs.LivesOfActors.{falls as after_falls, rises as after_rises}
use Rattle.qc_core.proofs.SiteReaches.{IsOfClients, site_reach}
use Rattle.qc_decl.specs.Vocabulary.{IsAccepted, is_client, is_site, most_clients}
use Rattle.qc_decl.specs.declared.declaration.Declaration.{Declaration}
use Rattle.qc_entry.specs.declared.record.Prepared.{Prepared}
use Rattle.qc_msg.specs.declared.record.Record.{Record}
use Rattle.qc_msg.specs.declared.record.Record.TheVariants as records
use Rattle.qc_msg.specs.declared.reply.Reply.{Reply}
use Rattle.qc_msg.specs.declared.step.Fall.{Fall}
use Rattle.qc_msg.specs.declared.step.Fall.TheVariants as causes
use Rattle.qc_msg.specs.declared.step.Input.{Input}
use Rattle.qc_msg.specs.declared.turn.Appended.{Appended}
use Rattle.qc_msg.specs.declared.turn.Appended.TheVariants.{Done, Failed, Stopped}
use Rattle.qc_msg.specs.declared.turn.Turn.{Turn}
use Rattle.qc_msg.specs.Vocabulary.{Deed, Falls, Rises, Takes, deeds_as, sends_of, tells_of, turn_deeds}
use Rattle.qc_recover.specs.Vocabulary.{kept_by, site_rises}
use Rattle.qc_site.proofs.Holders.{clients-promised}
use Rattle.qc_recover.proofs.Promised.{each_promise}
use Rattle.qc_site.specs.Vocabulary.{AreByClients, site_takes}
use Rattle.laws_bounds.specs.Vocabulary.{IsOfClient, IsSound}
use Rattle.qc_core.proofs.ByNumber.{new_by, rises_by}
use Rattle.laws_bounds.proofs.TurnsPosted.{admin_turn, client_turn, down_turn, runs_event, site_turn}
use Rattle.qc_core.proofs.ActorLaws.{input as after_takes}
use Rattle.qc_core.proofs.ActorSent.{runs_turn}

-- what holds of an actor between two inputs

pub record ClientReady (decl : Declaration) (running : Bool) (c : Client) : Type 0 where
  pub stands : Stands decl running c
  pub asked : AskedFit decl.sites c

pub record AdminReady (decl : Declaration) (m : Admin) : Type 0 where
  pub fits : AdminFits m
  pub holds : AdminHolds decl m

abbrev pub IsReady : Declaration → Bool → Actor → Type 0
IsReady decl running (actors.Site s) = IsOfClients s
IsReady decl running (actors.Client c) = ClientReady decl running c
IsReady decl running (actors.Admin m) = AdminReady decl m
IsReady decl running actors.Down = Unit {0}

module _ (decl : Declaration) (accepted : IsAccepted decl) (a : ℕ) where
  new_ready : IsReady decl false (new_actor decl a)
  new_ready = by (is_site decl a) (is_client decl a)
    where
      by : (site client : Bool) → IsReady decl false (new_by decl a site client)
      by true client = record { held = tt; prepared = tt }
      by false false = record { fits = tt; holds = tt }
      by false true = record {
        stands = new_stands decl (a - decl.sites);
        asked = new_asked decl.sites (a - decl.sites);
      }

  -- one input with its turn
  event_ready : (v : Actor) (ds : List Deed) (g : Input) (first : ℕ) → IsReady decl (is_running ds) v → MayTake ds g
      → IsFrom g → GivenFits g
      → IsReady decl (runs_told (runs_given (is_running ds) g) (actor_takes decl v g).turn.told)
      (fold (actor_does decl a) (actor_takes decl v g) (turn_deeds first (actor_takes decl v g).turn)).actor
  event_ready (actors.Site s) ds g first ready may from fits =
      subst
      (λ (m : ActorMove). IsReady decl
      (runs_told (runs_given (is_running ds) g) (site_takes decl s g).turn.told) m.actor)
      (sym (site_turn decl a (site_takes decl s g) first (site_takes decl s g).turn))
      (site_reach decl accepted s g from ready).clients
  event_ready (actors.Client c) ds g first ready may from fits =
      let on : Lands decl (runs_given (is_running ds) g) first (client_takes decl c g) =
      lands decl ds c g first accepted.has_site accepted.sites ready.stands may in
      let reach : ClientReach decl.sites (client_takes decl c g) =
      client_reach decl accepted c g from ready.stands.front ready.asked in
      subst
      (λ (m : ActorMove). IsReady decl
      (runs_told (runs_given (is_running ds) g) (client_takes decl c g).turn.told) m.actor)
      (sym
      (client_turn decl a (client_takes decl c g) first (client_takes decl c g).turn ∙ ap
      (λ (d : Client). by_client (record { client = d; turn = (client_takes decl c g).turn })) on.once))
      (record { stands = on.stands; asked = sent_asked decl.sites (client_takes decl c g).client first reach.asked })
  event_ready (actors.Admin m) ds g first ready may from fits =
      let on : IsNumberedAtOnce decl (admin_takes decl m g) = takes_now decl m g accepted ready.holds in
      subst
      (λ (v : ActorMove). IsReady decl
      (runs_told (runs_given (is_running ds) g) (admin_takes decl m g).turn.told) v.actor)
      (sym
      (admin_turn decl a (admin_takes decl m g) first (admin_takes decl m g).turn ∙ ap
      (λ (d : Admin). by_admin (record { admin = d; turn = (admin_takes decl m g).turn })) (on.told first)))
      (record {
        fits = sent_fits (admin_takes decl m g).admin first (takes_fit decl m g accepted ready.fits fits);
        holds = on.holds first;
      })
  event_ready actors.Down ds g first ready may from fits =
      subst (λ (m : ActorMove). IsReady decl (runs_told (runs_given (is_running ds) g) (down_takes g).told) m.actor)
      (sym (down_turn decl a (down_takes g) first (down_takes g))) tt

  -- a rise with its turn

  promises_of : (rs : List Record) → Every IsOfClient rs → IsOfClients (site_rises decl a rs).site
  promises_of rs all = record {
    held = clients-promised (kept_by (rs ++ records.Life ∷ [])).promises each;
    prepared = each;
  }
    where
      by : (p : Prepared) → In (records.Prepare p) rs ⊎ (records.Prepare p ≡ records.Life) → p.tx.client < most_clients
      by p (inl old) = every-In IsOfClient (records.Prepare p) rs all old
      by p (inr never) = absurd (let no : ⊥ = cc in no)

      each : AreByClients (kept_by (rs ++ records.Life ∷ [])).promises
      each =
          each_promise (λ (p : Prepared). p.tx.client < most_clients) (rs ++ records.Life ∷ [])
          (λ p among. by p (In-more (records.Prepare p) records.Life rs among))

  told_idle : (told : Option Reply) → runs_told false told ≡ false
  told_idle None = refl
  told_idle (Some reply) = refl

  rise_ready : (rs : List Record) (first : ℕ) → Every IsOfClient rs
      → IsReady decl false
      (fold (actor_does decl a) (actor_rises decl a rs) (turn_deeds first (actor_rises decl a rs).turn)).actor
  rise_ready rs first all = by (is_site decl a) (is_client decl a)
    where
      by : (site client : Bool)
          → IsReady decl false
          (fold (actor_does decl a) (rises_by decl a rs site client)
          (turn_deeds first (rises_by decl a rs site client).turn)).actor
      by false false = record { fits = tt; holds = tt }
      by true client =
          subst (λ (m : ActorMove). IsReady decl false m.actor)
          (sym (site_turn decl a (site_rises decl a rs) first (site_rises decl a rs).turn))
          (promises_of rs all)
      by false true = record {
        stands =
            record {
              front = refl;
              numbered = tt;
              settled = inl refl;
              few = tt;
              free = λ is. record { voting = refl; doing = refl };
            };
        asked = record { front = no_sites decl.sites; voting = no_sites decl.sites };
      }

  -- over all its deeds

  pub record IsOpen (ds : List Deed) : Type 0 where
    pub before : List Deed
    pub input : Input
    pub is : ds ≡ before ++ Takes input ∷ []
    pub ready : IsReady decl (is_running before) (actor_after decl a before).actor
    pub may : MayTake before input
    pub from : IsFrom input
    pub fits : GivenFits input

  abbrev pub Known : List Deed → Bool → Type 0
  Known ds false = IsReady decl (is_running ds) (actor_after decl a ds).actor
  Known ds true = IsOpen ds

  fallen : (ds : List Deed) (cause : Fall) (pending : Option Record) → Known (ds ++ Falls cause pending ∷ []) false
  fallen ds cause pending =
      subst (λ (m : ActorMove). IsReady decl (is_running (ds ++ Falls cause pending ∷ [])) m.actor)
      (sym (after_falls decl a ds cause pending)) tt

  -- a post whose record isn't written ends with a fall
  unwritten : (ds : List Deed) (end : Appended) (first : ℕ) (turn : Turn)
      → ((x : end ≡ Done) → Known (ds ++ turn_deeds first turn) false) → Known (ds ++ deeds_as end first turn) false
  unwritten ds Done first turn written = written refl
  unwritten ds Failed first turn written =
      subst (λ (v : List Deed). Known v false)
      (append_assoc ds (sends_of first turn.failed_sends ++ tells_of turn.failed_told)
      (Falls causes.Disk turn.write ∷ [])
      ∙ ap (λ (v : List Deed). ds ++ v)
      (append_assoc (sends_of first turn.failed_sends) (tells_of turn.failed_told) (Falls causes.Disk turn.write ∷ [])))
      (fallen (ds ++ (sends_of first turn.failed_sends ++ tells_of turn.failed_told)) causes.Disk turn.write)
  unwritten ds Stopped first turn written =
      subst (λ (v : List Deed). Known v false)
      (append_assoc ds (tells_of turn.failed_told) (Falls causes.Stop turn.write ∷ []))
      (fallen (ds ++ tells_of turn.failed_told) causes.Stop turn.write)

  posted : (ds : List Deed) (turn : Turn) (first : ℕ) → IsLawfulWithFalls decl a ds turn → IsOpen ds
      → Known (ds ++ turn_deeds first turn) false
  posted ds turn first law o =
      subst (λ (xs : List Deed). Known (xs ++ turn_deeds first turn) false) (sym o.is)
      (subst (λ (t : Turn). Known ((o.before ++ Takes o.input ∷ []) ++ turn_deeds first t) false) same
      (subst
      (λ (r : Bool). IsReady decl r
      (actor_after decl a ((o.before ++ Takes o.input ∷ []) ++ turn_deeds first move.turn)).actor)
      (sym (runs_event o.before o.input first move.turn))
      (subst
      (λ (m : ActorMove). IsReady decl (runs_told (runs_given (is_running o.before) o.input) move.turn.told) m.actor)
      (sym after)
      (event_ready (actor_after decl a o.before).actor o.before o.input first o.ready o.may o.from o.fits))))
    where
      move : ActorMove
      move = actor_takes decl (actor_after decl a o.before).actor o.input

      after : actor_after decl a ((o.before ++ Takes o.input ∷ []) ++ turn_deeds first move.turn) ≡ fold
          (actor_does decl a) move (turn_deeds first move.turn)
      after =
          fold-append (actor_does decl a) _ (o.before ++ Takes o.input ∷ []) (turn_deeds first move.turn)
          ∙ ap (λ (m : ActorMove). fold (actor_does decl a) m (turn_deeds first move.turn))
          (after_takes decl a o.before o.input)

      same : move.turn ≡ with_record turn
      same =
          ap (λ (m : ActorMove). m.turn)
          (sym (after_takes decl a o.before o.input) ∙ ap (actor_after decl a) (sym o.is))
          ∙ called_turn decl a ds turn law

  risen : (ds : List Deed) (rs : List Record) (turn : Turn) (first : ℕ)
      → IsLawfulWithFalls decl a (ds ++ Rises rs ∷ []) turn → Every IsOfClient rs
      → Known ((ds ++ Rises rs ∷ []) ++ turn_deeds first turn) false
  risen ds rs turn first law all =
      subst (λ (t : Turn). Known ((ds ++ Rises rs ∷ []) ++ turn_deeds first t) false) same
      (subst
      (λ (r : Bool). IsReady decl r
      (actor_after decl a ((ds ++ Rises rs ∷ []) ++ turn_deeds first (actor_rises decl a rs).turn)).actor) (sym running)
      (subst (λ (m : ActorMove). IsReady decl false m.actor) (sym after) (rise_ready rs first all)))
    where
      after : actor_after decl a ((ds ++ Rises rs ∷ []) ++ turn_deeds first (actor_rises decl a rs).turn) ≡ fold
          (actor_does decl a) (actor_rises decl a rs) (turn_deeds first (actor_rises decl a rs).turn)
      after =
          fold-append (actor_does decl a) _ (ds ++ Rises rs ∷ []) (turn_deeds first (actor_rises decl a rs).turn)
          ∙ ap (λ (m : ActorMove). fold (actor_does decl a) m (turn_deeds first (actor_rises decl a rs).turn))
          (after_rises decl a ds rs)

      running : is_running ((ds ++ Rises rs ∷ []) ++ turn_deeds first (actor_rises decl a rs).turn) ≡ false
      running =
          fold-append runs_at false (ds ++ Rises rs ∷ []) (turn_deeds first (actor_rises decl a rs).turn)
          ∙ ap (λ (r : Bool). fold runs_at r (turn_deeds first (actor_rises decl a rs).turn))
          (fold-append runs_at false ds (Rises rs ∷ []))
          ∙ runs_turn false first (actor_rises decl a rs).turn ∙ told_idle (actor_rises decl a rs).turn.told

      same : (actor_rises decl a rs).turn ≡ with_record turn
      same =
          ap (λ (m : ActorMove). m.turn) (sym (after_rises decl a ds rs))
          ∙ called_turn decl a (ds ++ Rises rs ∷ []) turn law

  first_all : (xs ys : List Deed) → Every IsSound (xs ++ ys) → Every IsSound xs
  first_all [] ys all = tt
  first_all (x ∷ xs) ys all = (all.0, first_all xs ys all.1)

  last_all : (xs ys : List Deed) → Every IsSound (xs ++ ys) → Every IsSound ys
  last_all [] ys all = all
  last_all (x ∷ xs) ys all = last_all xs ys all.1

  pub known : (ds : List Deed) (b : Bool) (n : ℕ) → Lives decl a ds b n → Every IsSound ds → Known ds b
  known ds b n lives.starts all = new_ready
  known ds b n (lives.takes before g m life may reach) all = record {
    before = before;
    input = g;
    is = refl;
    ready = known before false m life (first_all before (Takes g ∷ []) all);
    may = may;
    from = (last_all before (Takes g ∷ []) all).0.0;
    fits = (last_all before (Takes g ∷ []) all).0.1;
  }
  known ds b n (lives.posts before turn m first life low law) all =
      unwritten before turn.append first turn
      (λ done. posted before turn first law
      (known before true m life (first_all before (deeds_as turn.append first turn) all)))
  known ds b n (lives.crashes before m life up) all = fallen before causes.Script None
  known ds b n (lives.rises before rs turn m first life down low law) all =
      unwritten (before ++ Rises rs ∷ []) turn.append first turn
      (λ done. risen before rs turn first law
      (last_all before (Rises rs ∷ []) (first_all (before ++ Rises rs ∷ []) (deeds_as turn.append first turn) all)).0)
  known ds b n (lives.unopened before cause m life down disk) all = fallen before cause None
