-- Each client that is up agrees with its records.
use Rattle.std.specs.Prelude.{[], option_to_list}
use Rattle.std.proofs.Common.{◌≡◌, ◌≢◌, ℕ, ◌+◌, ◌-◌, not, Bool, true, false, cond, inl, inr, List, ◌∷◌, ◌++◌, Option}
use Rattle.std.proofs.Common.{Some, None, filter, length, refl, sym, ◌∙◌, subst}
use Rattle.std.proofs.lemmas.List.{append-nil}
use Rattle.qc_stamp.specs.declared.stamp.TxId.{TxId}
use Rattle.qc_stamp.specs.Vocabulary.{same_tx}
use Rattle.qc_list.specs.Vocabulary.{In}
use Rattle.qc_list.proofs.Members.{In-first, In-second, In-unfiltered, In-either}
use Rattle.qc_entry.specs.declared.record.Commit.{Commit as CommitRecord}
use Rattle.qc_decl.specs.declared.declaration.Declaration.{Declaration}
use Rattle.qc_decl.specs.Vocabulary.{administrator, is_client}
use Rattle.qc_msg.specs.declared.message.Message.{Message}
use Rattle.qc_msg.specs.declared.message.Message.TheVariants as messages
use Rattle.qc_msg.specs.declared.message.Want.TheVariants.{Read, Append, Prepare}
use Rattle.qc_msg.specs.declared.record.Record.{Record}
use Rattle.qc_msg.specs.declared.record.Record.TheVariants as records
use Rattle.qc_msg.specs.declared.turn.Posting.{Posting}
use Rattle.theory_machine.specs.Vocabulary.{put}
use Rattle.theory_machine.proofs.Names.{put_here}
use Rattle.qc_commit.specs.declared.desk.Voting.{Voting}
use Rattle.qc_commit.specs.Conduct as desks
use Rattle.qc_commit.specs.Vocabulary.{record_of}
use Rattle.qc_client.specs.Vocabulary.{ClientMove, client_takes, sent_one}
use Rattle.qc_client.specs.declared.client.Client.{Client}
use Rattle.qc_recover.specs.Vocabulary.{client_rises}
use Rattle.qc_recover.specs.Clients.{Kept, kept_by}
use Rattle.laws_refinement.specs.Vocabulary.{IsClientKeptBy, Net, Reaches, after_client, after_client_rise, sent_all}
use Rattle.qc_site.specs.Vocabulary.{site_takes}
use Rattle.qc_epoch.specs.Vocabulary.{admin_takes}
use Rattle.laws_refinement.specs.Net as nets
use Rattle.laws_refinement.proofs.ClientRecords.{client_kept_more, found_with}
use Rattle.laws_refinement.proofs.Kepts.{no_client, no_ruling}
use Rattle.laws_refinement.proofs.Machine.{put_other}
use Rattle.laws_refinement.proofs.ClientTurnsKeep.{IsKept, Keeping, take_keeps, nothing, commits_one}
use Rattle.laws_refinement.proofs.Lives.{same_or}

module _ (decl : Declaration) where
  -- numbers of messages change neither

  one_life : (c : Client) (n to : ℕ) (message : Message)
      → ((sent_one c n to message).front.life ≡ c.front.life)
      × ((sent_one c n to message).desk.commits ≡ c.desk.commits)
  one_life c n to (messages.Request tx epoch life (Read read)) = (refl, refl)
  one_life c n to (messages.Request tx epoch life (Append object view own)) = (refl, refl)
  one_life c n to (messages.Request tx epoch life Prepare) = (refl, by c.desk.voting)
    where
      by : (o : Option Voting) → (desks.prepared_in c.desk o n to).commits ≡ c.desk.commits
      by None = refl
      by (Some v) = refl
  one_life c n to (messages.Answer k answer) = (refl, refl)
  one_life c n to (messages.Decision tx verdict) = (refl, refl)
  one_life c n to (messages.Inquiry tx) = (refl, refl)
  one_life c n to (messages.Ask tx) = (refl, refl)
  one_life c n to (messages.Close epoch) = (refl, refl)
  one_life c n to (messages.Install start) = (refl, refl)

  all_life : (c : Client) (n : ℕ) (ps : List Posting)
      → ((sent_all c n ps).front.life ≡ c.front.life) × ((sent_all c n ps).desk.commits ≡ c.desk.commits)
  all_life c n [] = (refl, refl)
  all_life c n (p ∷ ps) =
      let one = one_life c n p.to p.message in
      let rest = all_life (sent_one c n p.to p.message) (n + 1) ps in
      (rest.0 ∙ one.0, rest.1 ∙ one.1)

  -- one record more

  none_last : (cs : List CommitRecord) (r : CommitRecord) (t : TxId) → record_of cs t ≡ None → same_tx r.tx t ≡ false
      → record_of (cs ++ r ∷ []) t ≡ None
  none_last [] r t none other = rw other refl
  none_last (x ∷ xs) r t none other = by (same_tx x.tx t) none (λ e. none_last xs r t e other)
    where
      by : (b : Bool) → cond b (Some x) (record_of xs t) ≡ None
          → (record_of xs t ≡ None → record_of (xs ++ r ∷ []) t ≡ None)
          → cond b (Some x) (record_of (xs ++ r ∷ []) t) ≡ None
      by true e rest = absurd (let never : ⊥ = cc in never)
      by false e rest = rest e

  step_keeps : (c : Client) (rs : List Record) (move : ClientMove) → IsClientKeptBy c (kept_by rs) → Keeping c move
      → (d : Client) → d.front.life ≡ move.client.front.life → d.desk.commits ≡ move.client.desk.commits
      → IsClientKeptBy d (kept_by (rs ++ option_to_list move.turn.write))
  step_keeps c rs move m k d life same = by move.turn.write k.kept
    where
      by : (o : Option Record) → IsKept c.desk.commits move.client.desk.commits o
          → IsClientKeptBy d (kept_by (rs ++ option_to_list o))
      by None (nothing still) =
          subst (λ (xs : List Record). IsClientKeptBy d (kept_by xs)) (sym (append-nil rs)) (record {
            life = life ∙ k.life ∙ m.life;
            commits = λ r among. subst (λ (cs : List CommitRecord). In r cs) (sym (same ∙ still)) (m.commits r among);
            none = λ t none. subst (λ (cs : List CommitRecord). record_of cs t ≡ None) (sym (same ∙ still))
                (m.none t none);
          })
      by _ (commits_one r more) =
          subst (λ (x : Kept). IsClientKeptBy d x) (sym (client_kept_more rs (records.Commit r))) (record {
            life = life ∙ k.life ∙ m.life;
            commits = λ x among. subst (λ (cs : List CommitRecord). In x cs) (sym (same ∙ more))
                (elim (In-either x (filter (λ (y : CommitRecord). not (same_tx y.tx r.tx)) (kept_by rs).commits)
                (r ∷ []) among) [
                  | inl old ↦
                      In-first x c.desk.commits (r ∷ [])
                      (m.commits x
                      (In-unfiltered (λ (y : CommitRecord). not (same_tx y.tx r.tx)) x (kept_by rs).commits old))
                  | inr new ↦ In-second x c.desk.commits (r ∷ []) new
                ]);
            none = λ t none. (let f : (record_of (kept_by rs).commits t ≡ None) × (same_tx r.tx t ≡ false) =
                found_with (kept_by rs).commits r t none in
                subst (λ (cs : List CommitRecord). record_of cs t ≡ None) (sym (same ∙ more))
                (none_last c.desk.commits r t (m.none t f.0) f.1));
          })

  -- the one that moves or rises, and the others
  at_one : (net next : Net) (a : ℕ)
      → ((b : ℕ) → b ≢ a → (next.clients b ≡ net.clients b) × (next.up b ≡ net.up b) × (next.records b ≡ net.records b))
      → (next.up a ≡ true → IsClientKeptBy (next.clients a) (kept_by (next.records a)))
      → ((b : ℕ) → is_client decl b ≡ true → net.up b ≡ true → IsClientKeptBy (net.clients b) (kept_by (net.records b)))
      → (b : ℕ) → is_client decl b ≡ true → next.up b ≡ true
      → IsClientKeptBy (next.clients b) (kept_by (next.records b))
  at_one net next a others here old b is u = elim (same_or b a) [
    | inl e ↦
        subst (λ (x : ℕ). IsClientKeptBy (next.clients x) (kept_by (next.records x))) (sym e)
        (here (subst (λ (x : ℕ). next.up x ≡ true) e u))
    | inr other ↦ (let o = others b other in
        subst (λ (c : Client). IsClientKeptBy c (kept_by (next.records b))) (sym o.0)
        (subst (λ (rs : List Record). IsClientKeptBy (net.clients b) (kept_by rs)) (sym o.2)
        (old b is (sym o.1 ∙ u))))
  ]

  not_up : (f : ℕ → Bool) (a : ℕ) → put f a false a ≡ true → ⊥
  not_up f a h = let e : put f a false a ≡ false = put_here f a false in let never : ⊥ = cc in never

  pub clients_kept : (net : Net) → Reaches decl net → (b : ℕ) → is_client decl b ≡ true → net.up b ≡ true
      → IsClientKeptBy (net.clients b) (kept_by (net.records b))
  clients_kept net nets.begins b is u = record { life = refl; commits = λ r never. absurd never; none = λ t none. refl }
  clients_kept net (nets.serves a given before r site up came) b is u =
      let other : b ≢ a = (λ e. no_client decl a site (subst (λ (k : ℕ). is_client decl k ≡ true) e is)) in
      subst (λ (rs : List Record). IsClientKeptBy (before.clients b) (kept_by rs))
      (sym (put_other before.records a
      (before.records a ++ option_to_list (site_takes decl (before.sites a) given).turn.write) b other))
      (clients_kept before r b is u)
  clients_kept net (nets.takes a given before r client up came ready) b is u =
      at_one before (after_client before a (client_takes decl (before.clients a) given)) a
      (λ d other. (
        put_other before.clients a
            (sent_all (client_takes decl (before.clients a) given).client (length before.mail)
            (client_takes decl (before.clients a) given).turn.sends) d other,
        refl,
        put_other before.records a
            (before.records a ++ option_to_list (client_takes decl (before.clients a) given).turn.write) d other,
      ))
      (λ v. subst (λ (c : Client). IsClientKeptBy c
      (kept_by (put before.records a
      (before.records a ++ option_to_list (client_takes decl (before.clients a) given).turn.write) a)))
      (sym (put_here before.clients a
      (sent_all (client_takes decl (before.clients a) given).client (length before.mail)
      (client_takes decl (before.clients a) given).turn.sends)))
      (subst (λ (rs : List Record). IsClientKeptBy
      (sent_all (client_takes decl (before.clients a) given).client (length before.mail)
      (client_takes decl (before.clients a) given).turn.sends) (kept_by rs))
      (sym (put_here before.records a
      (before.records a ++ option_to_list (client_takes decl (before.clients a) given).turn.write)))
      (let sent =
      all_life (client_takes decl (before.clients a) given).client (length before.mail)
      (client_takes decl (before.clients a) given).turn.sends in
      step_keeps (before.clients a) (before.records a) (client_takes decl (before.clients a) given)
      (clients_kept before r a client up) (take_keeps decl (before.clients a) given)
      (sent_all (client_takes decl (before.clients a) given).client (length before.mail)
      (client_takes decl (before.clients a) given).turn.sends) sent.0 sent.1)))
      (clients_kept before r) b is u
  clients_kept net (nets.site_falls a before r site up) b is u =
      at_one before net a (λ d other. (refl, put_other before.up a false d other, refl))
      (λ v. absurd (not_up before.up a v)) (clients_kept before r) b is u
  clients_kept net (nets.client_falls a before r client up) b is u =
      at_one before net a (λ d other. (refl, put_other before.up a false d other, refl))
      (λ v. absurd (not_up before.up a v)) (clients_kept before r) b is u
  clients_kept net (nets.site_fails a given written sends before r site up came wrote failed) b is u =
      at_one before net a (λ d other. (refl, put_other before.up a false d other, refl))
      (λ v. absurd (not_up before.up a v)) (clients_kept before r) b is u
  clients_kept net (nets.client_fails a given written sends before r client up came ready wrote failed) b is u =
      at_one before net a (λ d other. (refl, put_other before.up a false d other, refl))
      (λ v. absurd (not_up before.up a v)) (clients_kept before r) b is u
  clients_kept net (nets.site_rises_up a back before r site down given) b is u =
      let other : b ≢ a = (λ e. no_client decl a site (subst (λ (k : ℕ). is_client decl k ≡ true) e is)) in
      subst (λ (rs : List Record). IsClientKeptBy (before.clients b) (kept_by rs))
      (sym (put_other before.records a ((before.records a ++ option_to_list back) ++ records.Life ∷ []) b other))
      (clients_kept before r b is (sym (put_other before.up a true b other) ∙ u))
  clients_kept net (nets.client_rises_up a back before r client down given) b is u =
      at_one before (after_client_rise decl before a back) a
      (λ d other. (
        put_other before.clients a
            (client_rises (a - decl.sites) (before.records a ++ option_to_list back)).client d other,
        put_other before.up a true d other,
        put_other before.records a ((before.records a ++ option_to_list back) ++ records.Life ∷ []) d other,
      ))
      (λ v. subst (λ (c : Client). IsClientKeptBy c
      (kept_by (put before.records a ((before.records a ++ option_to_list back) ++ records.Life ∷ []) a)))
      (sym (put_here before.clients a
      (client_rises (a - decl.sites) (before.records a ++ option_to_list back)).client))
      (subst (λ (rs : List Record). IsClientKeptBy
      (client_rises (a - decl.sites) (before.records a ++ option_to_list back)).client (kept_by rs))
      (sym (put_here before.records a ((before.records a ++ option_to_list back) ++ records.Life ∷ [])))
      (record { life = refl; commits = λ r among. among; none = λ t none. none })))
      (clients_kept before r) b is u
  clients_kept net (nets.site_rises_in_vain a back before r site down given) b is u =
      let other : b ≢ a = (λ e. no_client decl a site (subst (λ (k : ℕ). is_client decl k ≡ true) e is)) in
      subst (λ (rs : List Record). IsClientKeptBy (before.clients b) (kept_by rs))
      (sym (put_other before.records a (before.records a ++ option_to_list back) b other))
      (clients_kept before r b is u)
  clients_kept net (nets.client_rises_in_vain a back before r client down given) b is u =
      let other : b ≢ a =
      (λ e. (let d : before.up b ≡ false = subst (λ (k : ℕ). before.up k ≡ false) (sym e) down in
      let never : ⊥ = cc in never)) in
      subst (λ (rs : List Record). IsClientKeptBy (before.clients b) (kept_by rs))
      (sym (put_other before.records a (before.records a ++ option_to_list back) b other))
      (clients_kept before r b is u)
  clients_kept net (nets.administers given before r up came named) b is u =
      let other : b ≢ administrator decl = (λ e. no_ruling decl (subst (λ (k : ℕ). is_client decl k ≡ true) e is)) in
      subst (λ (rs : List Record). IsClientKeptBy (before.clients b) (kept_by rs))
      (sym (put_other before.records (administrator decl)
      (before.records (administrator decl) ++ option_to_list (admin_takes decl before.admin given).turn.write) b
      other)) (clients_kept before r b is u)
  clients_kept net (nets.admin_falls before r up) b is u =
      at_one before net (administrator decl)
      (λ d other. (refl, put_other before.up (administrator decl) false d other, refl))
      (λ v. absurd (not_up before.up (administrator decl) v)) (clients_kept before r) b is u
  clients_kept net (nets.admin_fails given written sends before r up came named wrote failed) b is u =
      at_one before net (administrator decl)
      (λ d other. (refl, put_other before.up (administrator decl) false d other, refl))
      (λ v. absurd (not_up before.up (administrator decl) v)) (clients_kept before r) b is u
  clients_kept net (nets.admin_rises_up back before r down given) b is u =
      let other : b ≢ administrator decl = (λ e. no_ruling decl (subst (λ (k : ℕ). is_client decl k ≡ true) e is)) in
      subst (λ (rs : List Record). IsClientKeptBy (before.clients b) (kept_by rs))
      (sym (put_other before.records (administrator decl)
      ((before.records (administrator decl) ++ option_to_list back) ++ records.Life ∷ []) b other))
      (clients_kept before r b is (sym (put_other before.up (administrator decl) true b other) ∙ u))
  clients_kept net (nets.admin_rises_in_vain back before r down given) b is u =
      let other : b ≢ administrator decl = (λ e. no_ruling decl (subst (λ (k : ℕ). is_client decl k ≡ true) e is)) in
      subst (λ (rs : List Record). IsClientKeptBy (before.clients b) (kept_by rs))
      (sym (put_other before.records (administrator decl)
      (before.records (administrator decl) ++ option_to_list back) b other)) (clients_kept before r b is u)
