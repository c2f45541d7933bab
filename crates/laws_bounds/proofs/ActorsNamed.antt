-- An actor that names declared things goes on so for each input, each post and each rise.
use Rattle.std.proofs.Common.{◌≡◌, ℕ, ◌-◌, ◌<◌, ◌≤◌, ◌&&◌, nat_le, nat_lt, Bool, true, false, List, [], ◌∷◌, ◌++◌}
use Rattle.std.proofs.Common.{fold, map, take, Option, inl, inr, refl, sym, subst, arith}
use Rattle.std.specs.Prelude.{option_to_list}
use Rattle.std.specs.List.{AllByRecursion as Every}
use Rattle.std.proofs.lemmas.Bool.{leb-false, ltb-false, ltb-true}
use Rattle.qc_list.proofs.Members.{every-append}
use Rattle.qc_core.proofs.AdminWrites.{admin_written}
use Rattle.qc_decl.proofs.Clients.{client_below, client_past}
use Rattle.qc_epoch.specs.Vocabulary.{admin_takes}
use Rattle.qc_client.specs.Vocabulary.{client_takes}
use Rattle.qc_core.specs.declared.actor.Actor.{Actor}
use Rattle.qc_core.specs.declared.actor.Actor.TheVariants.{Site, Client, Admin, Down}
use Rattle.qc_core.specs.Vocabulary.{ActorMove, actor_does, actor_rises, actor_sends, actor_takes, down_takes, moved}
use Rattle.qc_core.specs.Vocabulary.{new_actor}
use Rattle.qc_core.proofs.Written.{client_written}
use Rattle.qc_decl.specs.Vocabulary.{IsAccepted, actors, administrator, client_actor, is_client, is_site}
use Rattle.qc_decl.specs.declared.declaration.Declaration.{Declaration}
use Rattle.qc_entry.specs.declared.record.Prepared.{Prepared}
use Rattle.qc_fit.specs.Vocabulary.{HasPlan}
use Rattle.qc_msg.specs.declared.message.Message.{Message}
use Rattle.qc_msg.specs.declared.record.Record.{Record}
use Rattle.qc_msg.specs.declared.record.Record.TheVariants as records
use Rattle.qc_msg.specs.declared.step.Input.{Input}
use Rattle.qc_msg.specs.declared.step.Input.TheVariants as inputs
use Rattle.qc_msg.specs.declared.turn.Turn.{Turn}
use Rattle.qc_msg.specs.Vocabulary.{Deed, Falls, Rises, Sends, Takes, Tells, Writes, first_epoch, quiet}
use Rattle.qc_recover.specs.Vocabulary.{kept_by, most_inquiries}
use Rattle.qc_site.specs.Vocabulary.{in_order, site_takes}
use Rattle.laws_bounds.proofs.ActorsWithin.{IsOfPost}
use Rattle.laws_bounds.proofs.AdminsNamed.{AdminMoveNamed, AdminNamed, admin_risen_named, admin_sends_named}
use Rattle.laws_bounds.proofs.AdminsNamed.{admin_takes_named}
use Rattle.qc_core.proofs.ByNumber.{new_by, rises_by}
use Rattle.laws_bounds.proofs.ClientsNamed.{ClientMoveNamed, ClientNamed, WriteNamed, client_takes_named, sent_named}
use Rattle.laws_bounds.proofs.Names.{AreNamed, GivenNamed, RecordNamed, SendsNamed}
use Rattle.laws_bounds.proofs.RisenNamed.{client_risen_named, inquiries_named, site_risen_named}
use Rattle.laws_bounds.proofs.SitesNamed.{SiteMoveNamed, SiteNamed, site_takes_named}

module _ (decl : Declaration) where
  abbrev pub StateNamed : ℕ → Actor → Type 0
  StateNamed a (Site s) = (a < decl.sites) × SiteNamed decl s
  StateNamed a (Client c) = (is_client decl a ≡ true) × ClientNamed decl (a - decl.sites) c
  StateNamed a (Admin m) = (administrator decl ≤ a) × AdminNamed decl m
  StateNamed a Down = Unit {0}

  pub record TurnNamed (a : ℕ) (turn : Turn) : Type 0 where
    pub sends : SendsNamed decl turn.sends
    pub failed_sends : SendsNamed decl turn.failed_sends
    pub write : a < actors decl → AreNamed decl a (option_to_list turn.write)

  pub record MoveNamed (a : ℕ) (m : ActorMove) : Type 0 where
    pub state : StateNamed a m.actor
    pub turn : TurnNamed a m.turn

  quiet_named : (a : ℕ) → TurnNamed a quiet
  quiet_named a = record { sends = tt; failed_sends = tt; write = λ low. tt }

  pub down_named : (a : ℕ) → MoveNamed a (moved Down quiet)
  down_named a = record { state = tt; turn = quiet_named a }

  site_low : (a : ℕ) → is_site decl a ≡ true → a < decl.sites
  site_low a is = ltb-true a decl.sites is

  -- neither a site's number, nor a client's
  admin_high : (a : ℕ) → is_site decl a ≡ false → is_client decl a ≡ false → administrator decl ≤ a
  admin_high a site client = by (nat_le decl.sites a) (nat_lt a (administrator decl)) refl refl client
    where
      by : (x y : Bool) → nat_le decl.sites a ≡ x → nat_lt a (administrator decl) ≡ y → (x && y) ≡ false
          → administrator decl ≤ a
      by true true high low is = absurd (let never : ⊥ = cc in never)
      by true false high low is = ltb-false a (administrator decl) low
      by false y high low is =
          absurd
          (let past : decl.sites ≤ a = ltb-false a decl.sites site in
          let below : a < decl.sites = leb-false decl.sites a high in
          let never : ⊥ = omega arith in never)

  pub new_named : HasPlan decl first_epoch → (a : ℕ) → MoveNamed a (moved (new_actor decl a) quiet)
  new_named first a = record { state = by (is_site decl a) (is_client decl a) refl refl; turn = quiet_named a }
    where
      by : (site client : Bool) → is_site decl a ≡ site → is_client decl a ≡ client
          → StateNamed a (new_by decl a site client)
      by false false is other = (admin_high a is other, record { decided = tt; doing = tt })
      by true client is other = (
        site_low a is,
        record { epoch = first; began = tt; log = tt; arrived = tt; held = tt; prepared = tt },
      )
      by false true is other = (
        other,
        record {
          own = record { client = refl; begun = tt };
          front = record { begun = tt; doing = tt };
          voting = tt;
        },
      )

  -- one input

  down_taken : (a : ℕ) (g : Input) → TurnNamed a (down_takes g)
  down_taken a (inputs.Called command) = record { sends = tt; failed_sends = tt; write = λ low. tt }
  down_taken a (inputs.Got e) = quiet_named a
  down_taken a (inputs.Lost number) = quiet_named a

  client_writes : (a : ℕ) (w : Option Record) → is_client decl a ≡ true → WriteNamed decl (a - decl.sites) w
      → AreNamed decl a (option_to_list w)
  client_writes a w is (inl none) =
      subst (λ (o : Option Record). AreNamed decl a (option_to_list o)) (sym none) tt
  client_writes a w is (inr one) =
      let high : decl.sites ≤ a = client_past decl a is in
      let low : a < administrator decl = client_below decl a is in
      let client : one.0.tx.client ≡ a - decl.sites = one.2 in
      subst (λ (o : Option Record). AreNamed decl a (option_to_list o)) (sym one.1) (
        (
          (let same : a ≡ client_actor decl one.0.tx.client = omega arith in same),
          (let below : one.0.tx.client < decl.clients = omega arith in below),
          one.3,
        ),
        tt,
      )

  pub takes_named : (accepted : IsAccepted decl) (a : ℕ) (v : Actor) (g : Input) → StateNamed a v → GivenNamed decl g
      → MoveNamed a (actor_takes decl v g)
  takes_named accepted a (Site s) g w here =
      let m : SiteMoveNamed decl a (site_takes decl s g) = site_takes_named decl a w.0 s g w.1 here in
      record {
        state =
            (w.0, m.site);
        turn = record { sends = m.sends; failed_sends = m.failed_sends; write = λ low. m.write };
      }
  takes_named accepted a (Client c) g w here =
      let m : ClientMoveNamed decl (a - decl.sites) (client_takes decl c g) =
      client_takes_named decl (a - decl.sites) accepted c w.1 g here in
      record {
        state = (w.0, m.client);
        turn = record {
          sends = m.sends;
          failed_sends = subst (SendsNamed decl) (sym (client_written decl c g).failed_sends) tt;
          write = λ low. client_writes a (client_takes decl c g).turn.write w.0 m.write;
        };
      }
  takes_named accepted a (Admin m) g w here =
      let on : AdminMoveNamed decl a (admin_takes decl m g) = admin_takes_named decl a m g w.1 here in
      record {
        state = (w.0, on.admin);
        turn = record {
          sends = on.sends;
          failed_sends = subst (SendsNamed decl) (sym (admin_written decl m g).failed_sends) tt;
          write = λ low. on.write (let past : administrator decl ≤ a = w.0 in omega arith);
        };
      }
  takes_named accepted a Down g w here = record { state = tt; turn = down_taken a g }

  -- a post

  sends_named : (a : ℕ) (v : Actor) (number to : ℕ) (message : Message) → StateNamed a v
      → StateNamed a (actor_sends v number to message)
  sends_named a (Site s) number to message w = w
  sends_named a (Client c) number to message w = (w.0, sent_named decl (a - decl.sites) c number to message w.1)
  sends_named a (Admin m) number to message w = (w.0, admin_sends_named decl m number to message w.1)
  sends_named a Down number to message w = w

  pub posts_named : (a : ℕ) (m : ActorMove) (ds : List Deed) → Every IsOfPost ds → MoveNamed a m
      → MoveNamed a (fold (actor_does decl a) m ds)
  posts_named a m [] all w = w
  posts_named a m (Takes g ∷ ds) all w = absurd all.0
  posts_named a m (Writes written ∷ ds) all w = posts_named a m ds all.1 w
  posts_named a m (Sends number to message ∷ ds) all w =
      posts_named a (record m { actor = actor_sends m.actor number to message }) ds all.1
      (record { state = sends_named a m.actor number to message w.state; turn = w.turn })
  posts_named a m (Tells reply ∷ ds) all w = posts_named a m ds all.1 w
  posts_named a m (Falls cause pending ∷ ds) all w = posts_named a (moved Down quiet) ds all.1 (down_named a)
  posts_named a m (Rises rs ∷ ds) all w = absurd all.0

  -- a rise

  pub rises_named : HasPlan decl first_epoch → (a : ℕ) (rs : List Record) → AreNamed decl a rs
      → MoveNamed a (actor_rises decl a rs)
  rises_named first a rs all = by (is_site decl a) (is_client decl a) refl refl
    where
      by : (site client : Bool) → is_site decl a ≡ site → is_client decl a ≡ client
          → MoveNamed a (rises_by decl a rs site client)
      by false false is other = record {
        state = (
          admin_high a is other,
          admin_risen_named decl a rs all,
        );
        turn = record { sends = tt; failed_sends = tt; write = λ low. (low, tt) };
      }
      by true client is other =
          let low : a < decl.sites = site_low a is in
          record {
            state = (
              low,
              site_risen_named decl first a (rs ++ records.Life ∷ [])
                  (every-append (RecordNamed decl a) rs (records.Life ∷ []) all
                  ((let life : a < actors decl = omega arith in life), tt)),
            );
            turn = record {
              sends = inquiries_named decl (take most_inquiries
                  (in_order (map (λ (p : Prepared). p.tx) (kept_by rs).promises)));
              failed_sends = tt;
              write = λ low. (low, tt);
            };
          }
      by false true is other = record {
        state = (other, client_risen_named decl (a - decl.sites) (rs ++ records.Life ∷ []));
        turn = record { sends = tt; failed_sends = tt; write = λ low. (low, tt) };
      }
