-- What bodies say, over one body more and over a front of them.
use Rattle.std.proofs.Common.{◌≡◌, inl, inr, ◌≤◌, ◌<◌, ◌+◌, ◌-◌, ℕ, List, [], ◌∷◌, ◌++◌, length, take, drop, Bool, IsTrue, All, true, false, refl, ap, sym, subst, ◌∙◌, arith, append_assoc, take-append-drop, true≢false}
use Rattle.std.specs.Prelude.{map}
use Rattle.std.proofs.lemmas.Bool.{cases_lt}
use Rattle.std.proofs.lemmas.List.{map-append, take_at, take-take}
use Rattle.std.proofs.lemmas.List.Elements.{All-contains, All-head, All-push, All-tail, All-take, Contains-push}
use Rattle.commit_journal.specs.declared.records.Commit.{Commit}
use Rattle.commit_journal.specs.Bodies.{body_text, IsCommit}
use Rattle.commit_journal.specs.Journal.{IsFirstBad, Leave, Say}
use Rattle.commit_journal.specs.Stored.{may_follow, may_stand, stored, with_commit, Rows}
use Rattle.commit_journal.proofs.Applied.{stored-push}
use Rattle.commit_journal.proofs.Lists.{at_end, cut}
use Rattle.commit_journal.proofs.OneText.{one_commit}

-- what may come next, by the rows alone
abbrev pub may_follow_rows : Rows → Commit → Bool
may_follow_rows rows c = may_stand c.zone c.stored rows

pub say_none : Say [] []
say_none = record { texts = refl; each = λ k d h. absurd (omega arith); follow = λ before after c e. absurd (none before after c e) }
  where
    none : (before after : List Commit) (c : Commit) → [] ≡ before ++ c ∷ after → ⊥
    none [] after c e = cc
    none (b ∷ before) after c e = cc

-- one body more
pub say_more : (bodies : List (List ℕ)) (commits : List Commit) (body : List ℕ) (c : Commit) → Say bodies commits → IsCommit c → body ≡ body_text c → IsTrue (may_follow commits c) → Say (bodies ++ body ∷ []) (commits ++ c ∷ [])
say_more bodies commits body c say is text may = record {
  texts = ap (λ (l : List (List ℕ)). l ++ body ∷ []) say.texts ∙ ap (λ (t : List ℕ). map body_text commits ++ t ∷ []) text ∙ sym (map-append body_text commits (c ∷ []));
  each = All-push IsCommit commits c say.each is;
  follow = λ before after d e. elim (at_end commits before after c d e) [
    | inl same ↦ subst (λ (l : List Commit). IsTrue (may_follow l d)) same.0 (subst (λ (x : Commit). IsTrue (may_follow commits x)) same.1 may)
    | inr b ↦ say.follow before b.middle d b.whole
  ];
}

-- a front of the bodies, and what is said after it
pub record SaysFront (xs ys : List (List ℕ)) (said : List Commit) : Type 0 where
  pub front : List Commit
  pub behind : List Commit
  pub whole : said ≡ front ++ behind
  pub say : Say xs front
  pub more : map body_text behind ≡ ys

pub say_front : (xs ys : List (List ℕ)) (said : List Commit) → Say (xs ++ ys) said → SaysFront xs ys said
say_front xs ys said say =
    let at = cut body_text said xs ys (sym say.texts) in
    let each : All IsCommit (at.front ++ at.behind) = subst (All IsCommit) at.whole say.each in
    record {
      front = at.front;
      behind = at.behind;
      whole = at.whole;
      say = record {
        texts = sym at.are;
        each = subst (All IsCommit) (take_at at.front at.behind (length at.front) refl) (All-take IsCommit (length at.front) (at.front ++ at.behind) each);
        follow = λ before after d e. say.follow before (after ++ at.behind) d (at.whole ∙ ap (λ (l : List Commit). l ++ at.behind) e ∙ append_assoc before (d ∷ after) at.behind);
      };
      more = at.more;
    }

-- the last of the bodies
pub record SaysLast (bodies : List (List ℕ)) (body : List ℕ) (said : List Commit) : Type 0 where
  pub before : List Commit
  pub commit : Commit
  pub say : Say bodies before
  pub is : IsCommit commit
  pub text : body ≡ body_text commit
  pub may : IsTrue (may_follow before commit)

pub say_last : (bodies : List (List ℕ)) (body : List ℕ) (said : List Commit) → Say (bodies ++ body ∷ []) said → SaysLast bodies body said
say_last bodies body said say = by_behind f.behind f.whole f.more
  where
    f : SaysFront bodies (body ∷ []) said
    f = say_front bodies (body ∷ []) said say

    by_behind : (behind : List Commit) → said ≡ f.front ++ behind → map body_text behind ≡ body ∷ [] → SaysLast bodies body said
    by_behind [] whole more = absurd (cc)
    by_behind (c ∷ d ∷ rest) whole more = absurd (cc)
    by_behind (c ∷ []) whole more =
        let text : body_text c ≡ body = cc in
        let each : All IsCommit (f.front ++ c ∷ []) = subst (All IsCommit) whole say.each in
        record {
          before = f.front;
          commit = c;
          say = f.say;
          is = All-contains IsCommit (f.front ++ c ∷ []) c each (Contains-push f.front c);
          text = sym text;
          may = say.follow f.front [] c whole;
        }

-- bodies say one list of commits
same_commits : (a b : List Commit) → All IsCommit a → All IsCommit b → map body_text a ≡ map body_text b → a ≡ b
same_commits [] [] f g e = refl
same_commits [] (c ∷ b) f g e = absurd (cc)
same_commits (c ∷ a) [] f g e = absurd (cc)
same_commits (c ∷ a) (d ∷ b) f g e =
    let texts : body_text c ≡ body_text d = cc in
    let rest : map body_text a ≡ map body_text b = cc in
    let head : c ≡ d = one_commit c d (All-head IsCommit c a f) (All-head IsCommit d b g) texts in
    let tail : a ≡ b = same_commits a b (All-tail IsCommit c a f) (All-tail IsCommit d b g) rest in
    cc

pub say_one : (bodies : List (List ℕ)) (a b : List Commit) → Say bodies a → Say bodies b → a ≡ b
say_one bodies a b f g = same_commits a b f.each g.each (sym f.texts ∙ g.texts)

-- and they leave one list of zones
pub leave_one : (bodies : List (List ℕ)) (a b : Rows) → Leave bodies a → Leave bodies b → a ≡ b
leave_one bodies a b f g = f.are ∙ ap stored (say_one bodies f.commits g.commits f.say g.say) ∙ sym g.are

pub leave_more : (bodies : List (List ℕ)) (rows new : Rows) (body : List ℕ) (c : Commit) → Leave bodies rows → IsCommit c → body ≡ body_text c → IsTrue (may_follow_rows rows c) → new ≡ with_commit c rows → Leave (bodies ++ body ∷ []) new
leave_more bodies rows new body c leave is text may applied =
    let follows : IsTrue (may_follow leave.commits c) = subst (λ (l : Rows). IsTrue (may_follow_rows l c)) leave.are may in
    record {
      commits = leave.commits ++ c ∷ [];
      say = say_more bodies leave.commits body c leave.say is text follows;
      are = applied ∙ ap (with_commit c) leave.are ∙ sym (stored-push leave.commits c);
    }

-- a body that says nothing which may come next
pub bad_here : (bodies : List (List ℕ)) (body : List ℕ) (commits : List Commit) → Say bodies commits → ((c : Commit) → IsCommit c → body ≡ body_text c → may_follow commits c ≡ false)
    → (said : List Commit) → Say (bodies ++ body ∷ []) said → ⊥
bad_here bodies body commits say bad said more =
    let last = say_last bodies body said more in
    let same : last.before ≡ commits = say_one bodies last.before commits last.say say in
    let may : may_follow commits last.commit ≡ true = subst (λ (l : List Commit). may_follow l last.commit ≡ true) same last.may in
    true≢false (sym may ∙ bad last.commit last.is last.text)

pub first_bad : (bodies : List (List ℕ)) (i n : ℕ) (body : List ℕ) (rows : Rows) → n ≡ i + 1 → i < length bodies → take (i + 1) bodies ≡ take i bodies ++ body ∷ [] → Leave (take i bodies) rows
    → ((c : Commit) → IsCommit c → body ≡ body_text c → may_follow_rows rows c ≡ false) → IsFirstBad bodies n
first_bad bodies i n body rows at inside more leave bad =
    let here : n - 1 ≡ i = omega arith in
    record {
      positive = omega arith;
      within = omega arith;
      commits = leave.commits;
      before = rw here leave.say;
      bad = λ said say. bad_here (take i bodies) body leave.commits leave.say (λ c is text. subst (λ (l : Rows). may_follow_rows l c ≡ false) leave.are (bad c is text)) said
          (subst (λ (l : List (List ℕ)). Say l said) (ap (λ (k : ℕ). take k bodies) at ∙ more) say);
    }

-- bodies that say commits have none that says nothing
fewer : (n : ℕ) (bodies : List (List ℕ)) (said : List Commit) → Say bodies said → SaysFront (take n bodies) (drop n bodies) said
fewer n bodies said say = say_front (take n bodies) (drop n bodies) said (subst (λ (l : List (List ℕ)). Say l said) (sym (take-append-drop n bodies)) say)

pub none_bad : (bodies : List (List ℕ)) (said : List Commit) (n : ℕ) → Say bodies said → IsFirstBad bodies n → ⊥
none_bad bodies said n say first = let f = fewer n bodies said say in first.bad f.front f.say

not_later : (bodies : List (List ℕ)) (m n : ℕ) → IsFirstBad bodies m → IsFirstBad bodies n → m < n → ⊥
not_later bodies m n f g less =
    let front = fewer m (take (n - 1) bodies) g.commits g.before in
    let le : m ≤ n - 1 = omega arith in
    f.bad front.front (subst (λ (l : List (List ℕ)). Say l front.front) (take-take m (n - 1) bodies le) front.say)

pub first_one : (bodies : List (List ℕ)) (m n : ℕ) → IsFirstBad bodies m → IsFirstBad bodies n → m ≡ n
first_one bodies m n f g =
    elim (cases_lt m n) [
      | inl less ↦ absurd (not_later bodies m n f g less)
      | inr ge ↦ elim (cases_lt n m) [ inl less ↦ absurd (not_later bodies n m g f less) | inr le ↦ omega arith ]
    ]
