-- A client falls, is told Down, and rises with the records that its journal gives back: it stands in what it has seen
-- as before, with nothing shown.
use Rattle.std.proofs.Common.{◌≡◌, ◌≤◌, ◌⊎◌, ℕ, ◌+◌, max, Bool, true, false, List, [], ◌∷◌, ◌++◌, inl, inr, fold}
use Rattle.std.proofs.Common.{Option, Some, None, option_to_list, refl, sym, ap, ◌∙◌, subst, arith}
use Rattle.std.specs.Option.{option_map_or}
use Rattle.std.proofs.lemmas.List.Sums.{fold-append}
use Rattle.qc_stamp.specs.declared.stamp.TxId.{TxId}
use Rattle.qc_stamp.specs.Vocabulary.{first_life}
use Rattle.qc_list.specs.Vocabulary.{In}
use Rattle.qc_list.proofs.Members.{In-first, In-more, In-either}
use Rattle.qc_decl.specs.declared.declaration.Declaration.{Declaration}
use Rattle.qc_entry.specs.declared.record.Commit.{Commit}
use Rattle.qc_msg.specs.declared.record.Record.{Record}
use Rattle.qc_msg.specs.declared.record.Record.TheVariants as records
use Rattle.qc_msg.specs.declared.reply.Reply.TheVariants as replies
use Rattle.qc_msg.specs.declared.step.Command.{Command}
use Rattle.qc_msg.specs.declared.step.Fall.{Fall}
use Rattle.qc_msg.specs.declared.step.Input.TheVariants as inputs
use Rattle.qc_msg.specs.Vocabulary.{Falls, Rises, Takes, Tells, Writes, commit_of}
use Rattle.qc_promise.specs.Vocabulary.{Account, IsGivenBack, Journal, Sight, account_at, account_fallen, clock_with}
use Rattle.qc_promise.specs.Vocabulary.{is_begun, life_with}
use Rattle.laws_reach.proofs.CarriedRecords.{life_up}
use Rattle.laws_atomic.proofs.Counted.{IsOpen, name_of}
use Rattle.laws_atomic.proofs.Seeing.{IsUpTo}
use Rattle.laws_reach.proofs.Making.{IsHad}
use Rattle.laws_reach.proofs.Naming.{named_as, named_down, named_lives, named_risen}
use Rattle.laws_reach.proofs.SightPosting.{AfterAll}
use Rattle.laws_reach.proofs.Standing.{IsAccount, IsRecorded, Stands, account_more, up_not}
use Rattle.laws_reach.proofs.Committing.{given_back}

-- the clock of records has passed the stamp of each

clocks_up : (n : ℕ) (rs : List Record) → n ≤ fold clock_with n rs
clocks_up n [] = omega arith
clocks_up n (r ∷ rs) = by (commit_of r) (λ m. clocks_up m rs)
  where
    by : (o : Option Commit) → ((m : ℕ) → m ≤ fold clock_with m rs)
        → n ≤ fold clock_with (option_map_or (λ (c : Commit). max n c.stamp.clock) o n) rs
    by None more = more n
    by (Some c) more = let up : max n c.stamp.clock ≤ fold clock_with (max n c.stamp.clock) rs =
        more (max n c.stamp.clock) in omega arith

clocks_pass : (n : ℕ) (rs : List Record) (c : Commit) → In (records.Commit c) rs → c.stamp.clock ≤ fold clock_with n rs
clocks_pass n [] c among = absurd among
clocks_pass n (r ∷ rs) c (inl same) =
    subst (λ (x : Record). c.stamp.clock ≤ fold clock_with (clock_with n x) rs) same
    (let up : max n c.stamp.clock ≤ fold clock_with (max n c.stamp.clock) rs = clocks_up (max n c.stamp.clock) rs in
    omega arith)
clocks_pass n (r ∷ rs) c (inr later) = clocks_pass (clock_with n r) rs c later

-- lives only grow
lives_up : (j : Journal) (kept : List Record) → IsGivenBack j kept
    → fold life_with first_life j.records ≤ fold life_with first_life kept
lives_up j kept (inl same) = subst (λ (rs : List Record). fold life_with first_life j.records ≤ fold life_with
    first_life rs) (sym same) (life_up (fold life_with first_life j.records) [])
lives_up j kept (inr more) =
    subst (λ (n : ℕ). fold life_with first_life j.records ≤ n)
    (sym (ap (fold life_with first_life) more
    ∙ fold-append life_with first_life j.records (option_to_list j.pending)))
    (life_up (fold life_with first_life j.records) (option_to_list j.pending))

-- what is given back, the journal had, or it was being written
back_had : (c : Commit) (j : Journal) (kept : List Record) → IsGivenBack j kept → In (records.Commit c) kept → IsHad c j
back_had c j kept (inl same) among = inl (subst (In (records.Commit c)) same among)
back_had c j kept (inr more) among = by (In-either (records.Commit c) j.records (option_to_list j.pending)
    (subst (In (records.Commit c)) more among))
  where
    last : (o : Option Record) → In (records.Commit c) (option_to_list o) → o ≡ Some (records.Commit c)
    last None there = absurd there
    last (Some r) (inl same) = ap (λ (x : Record). Some x) (sym same)
    last (Some r) (inr never) = absurd never

    by : In (records.Commit c) j.records ⊎ In (records.Commit c) (option_to_list j.pending) → IsHad c j
    by (inl first) = inl first
    by (inr second) = inr (last j.pending second)

module _ (decl : Declaration) (commits : List Commit) (tx : TxId) (client : ℕ) (d : Account) (s : Sight)
    (made : List Commit) (j : Journal) where
  -- while it is down, nothing is begun

  unbegun : Stands decl commits tx client false d s made j → s.begun ≡ None
  unbegun w = w.sees.begun ∙ ap name_of (w.keeps.quiet refl).0

  nothing : Stands decl commits tx client false d s made j → is_begun tx s.begun ≡ true → ⊥
  nothing w is = let gone : is_begun tx None ≡ true = ap (is_begun tx) (sym (unbegun w))
      ∙ is in let never : ⊥ = cc in never

  -- it falls, and no commit record is pending that wasn't before
  falls_with : (up : Bool) → Stands decl commits tx client up d s made j → (pending : Option Record)
      → ((c : Commit) → pending ≡ Some (records.Commit c) → j.pending ≡ Some (records.Commit c))
      → IsAccount decl client (account_fallen d)
      → Stands decl commits tx client false (account_fallen d) (record s { begun = None; waiting = [] }) made
      (record j { pending = pending })
  falls_with up w pending before account = record {
    sees = record {
      begun = refl;
      waiting = λ n among. absurd among;
      shown = w.sees.shown;
      committed = w.sees.committed;
      seen = λ is. absurd (let never : ⊥ = cc in never);
      before = w.sees.before;
      ended = λ r among its. tt;
      stands = λ r among its is. absurd (let never : ⊥ = cc in never);
      listed = λ r is. absurd (let never : ⊥ = cc in never);
    };
    keeps = record {
      account = account;
      named = λ r among its. named_down client tx up d.life d.count (w.keeps.named r among its);
      begun = λ is. absurd (let never : ⊥ = cc in never);
      life = w.keeps.life;
      told = w.keeps.told;
      known = λ c had. w.keeps.known c (by c had);
      written = λ x is. absurd (let never : ⊥ = cc in never);
      quiet = λ is. (refl, (refl, refl));
    };
  }
    where
      by : (c : Commit) → IsHad c (record j { pending = pending }) → IsHad c j
      by c (inl among) = inl among
      by c (inr is) = inr (before c is)

  -- by a line of the script, or once more
  pub falls : (up : Bool) → Stands decl commits tx client up d s made j → (cause : Fall)
      → AfterAll decl commits tx client false d s made j (Falls cause None ∷ [])
  falls up w cause = falls_with up w j.pending (λ c is. is)
      (account_more decl client d w.keeps.account (Falls cause None))

  -- as it writes the record of its rise
  pub falls_rising : Stands decl commits tx client false d s made j → (cause : Fall)
      → AfterAll decl commits tx client false d s made j (Falls cause (Some records.Life) ∷ [])
  falls_rising w cause = falls_with false w (Some records.Life) (λ c is. absurd (let never : ⊥ = cc in never))
      (account_more decl client d w.keeps.account (Falls cause (Some records.Life)))

  -- an account of one that is down, with nothing begun
  quiet_on : Stands decl commits tx client false d s made j → (e : Account) → IsAccount decl client e → e.life ≡ d.life
      → e.count ≡ d.count → e.clock ≡ d.clock → e.current ≡ None → e.requests ≡ [] → e.written ≡ None
      → Stands decl commits tx client false e s made j
  quiet_on w e account life count clock current requests written = record {
    sees = record {
      begun = unbegun w ∙ sym (ap name_of current);
      waiting = λ n among. absurd (let o : IsOpen n d.requests = w.sees.waiting n among in
          subst (In o.request) (w.keeps.quiet refl).1.0 o.among);
      shown = λ t among. subst (IsUpTo commits t) (sym clock) (w.sees.shown t among);
      committed = λ t among. subst (IsUpTo commits t) (sym clock) (w.sees.committed t among);
      seen = λ is. absurd (nothing w is);
      before = w.sees.before;
      ended = λ r among its. tt;
      stands = λ r among its is. absurd (nothing w is);
      listed = λ r is. absurd (unwritten r is);
    };
    keeps = record {
      account = account;
      named = λ r among its. named_as client tx false d.life d.count e.life e.count life count
          (w.keeps.named r among its);
      begun = λ is. absurd (nothing w is);
      life = life ∙ w.keeps.life;
      told = w.keeps.told;
      known = w.keeps.known;
      written = λ r is. absurd (unwritten r is);
      quiet = λ is. (current, (requests, written));
    };
  }
    where
      unwritten : (r : Commit) → e.written ≡ Some r → ⊥
      unwritten r is = let never : ⊥ = cc in never

  -- while it is down a command comes, and it is told so

  pub calls_down : Stands decl commits tx client false d s made j → (command : Command)
      → AfterAll decl commits tx client false d s made j (Takes (inputs.Called command) ∷ [])
  calls_down w command = quiet_on w (account_at decl d (Takes (inputs.Called command)))
      (account_more decl client d w.keeps.account (Takes (inputs.Called command))) refl refl refl
      (w.keeps.quiet refl).0 refl refl

  pub tells_down : Stands decl commits tx client false d s made j
      → AfterAll decl commits tx client false d s made j (Tells replies.Down ∷ [])
  tells_down w = quiet_on w (account_at decl d (Tells replies.Down))
      (account_more decl client d w.keeps.account (Tells replies.Down)) refl refl refl (w.keeps.quiet refl).0 refl refl

  -- it rises, and what it was told that it committed is among its records
  pub rises : Stands decl commits tx client false d s made j → (kept : List Record) → IsGivenBack j kept
      → ((c : Commit) → In (records.Commit c) kept → In c commits)
      → AfterAll decl commits tx client false d s made j (Rises kept ∷ [])
  rises w kept back there = record {
    sees = record {
      begun = unbegun w;
      waiting = λ n among. absurd (let o : IsOpen n d.requests = w.sees.waiting n among in
          subst (In o.request) (w.keeps.quiet refl).1.0 o.among);
      shown = λ t among. absurd among;
      committed = λ t among. passed t (w.keeps.told t among);
      seen = λ is. absurd (nothing w is);
      before = w.sees.before;
      ended = λ r among its. tt;
      stands = λ r among its is. absurd (nothing w is);
      listed = λ r is. absurd (let never : ⊥ = cc in never);
    };
    keeps = record {
      account = account_more decl client d w.keeps.account (Rises kept);
      named = λ r among its. named_risen client tx d.life d.count (fold life_with first_life kept) 0 life_up_to
          (w.keeps.named r among its);
      begun = λ is. absurd (nothing w is);
      life = refl;
      told = λ t among. (let r : IsRecorded t j.records = w.keeps.told t among in
          record {
            commit = r.commit;
            listed = given_back (records.Commit r.commit) j kept back r.listed;
            named = r.named;
          });
      known = λ c had. w.keeps.known c (by c had);
      written = λ x is. absurd (let never : ⊥ = cc in never);
      quiet = λ is. (refl, (refl, refl));
    };
  }
    where
      passed : (t : TxId) → IsRecorded t j.records → IsUpTo commits t (fold clock_with 0 kept)
      passed t r =
          let among : In (records.Commit r.commit) kept = given_back (records.Commit r.commit) j kept back r.listed in
          record {
            commit = r.commit;
            listed = there r.commit among;
            named = r.named;
            low = clocks_pass 0 kept r.commit among;
          }

      life_up_to : d.life ≤ fold life_with first_life kept
      life_up_to = subst (λ (n : ℕ). n ≤ fold life_with first_life kept) (sym w.keeps.life) (lives_up j kept back)

      by : (c : Commit) → IsHad c (record { records = kept; pending = None }) → IsHad c j
      by c (inl among) = back_had c j kept back among
      by c (inr is) = absurd (let never : ⊥ = cc in never)

  -- and it lives once more, as the record of its rise is written
  pub lives : Stands decl commits tx client false d s made j
      → AfterAll decl commits tx client true d s made j (Writes records.Life ∷ [])
  lives w = record {
    sees = record {
      begun = w.sees.begun;
      waiting = w.sees.waiting;
      shown = w.sees.shown;
      committed = w.sees.committed;
      seen = w.sees.seen;
      before = w.sees.before;
      ended = λ r among its. tt;
      stands = w.sees.stands;
      listed = w.sees.listed;
    };
    keeps = record {
      account = account_more decl client d w.keeps.account (Writes records.Life);
      named = λ r among its. named_lives client tx d.life d.count (w.keeps.named r among its);
      begun = λ is. named_lives client tx d.life d.count (w.keeps.begun is);
      life = ap (λ (n : ℕ). n + 1) w.keeps.life ∙ sym (fold-append life_with first_life j.records (records.Life ∷ []));
      told = λ t among. (let r : IsRecorded t j.records = w.keeps.told t among in
          record {
            commit = r.commit;
            listed = In-first (records.Commit r.commit) j.records
                (records.Life ∷ []) r.listed;
            named = r.named;
          });
      known = known;
      written = λ x is. In-first (records.Commit x) j.records (records.Life ∷ []) (w.keeps.written x is);
      quiet = λ is. up_not is;
    };
  }
    where
      of : (c : Commit) → In (records.Commit c) j.records ⊎ (records.Commit c ≡ records.Life) → In c made
      of c (inl old) = w.keeps.known c (inl old)
      of c (inr new) = absurd (let never : ⊥ = cc in never)

      known : (c : Commit) → IsHad c (record j { records = j.records ++ records.Life ∷ [] }) → In c made
      known c (inl among) = of c (In-more (records.Commit c) records.Life j.records among)
      known c (inr is) = w.keeps.known c (inr is)
