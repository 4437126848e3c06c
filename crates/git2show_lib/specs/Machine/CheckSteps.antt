-- How the requests of a conversation are read: what the bytes that were used ask, and what comes after the last whole request.
use Rattle.std.specs.Prelude.{◌≡◌, ◌⊎◌, ℕ, Bool, true, List, [], ◌++◌}
use Rattle.git_pkt.specs.Splits.{Given}
use Rattle.git_msg.specs.Requests.{IsStop}
use Rattle.git2show_lib.specs.Others.{judged_of}
use Rattle.git2show_lib.specs.OtherLines.{Question}
use Rattle.git2show_lib.specs.Machine.JudgedRequests.{HasRead, AreAskedBy, IsReady, advertised_by, limit_of, text_of}
use Rattle.git2show_lib.specs.declared.judged_requests.JudgedRequests.{JudgedRequests}

module _ {A : Type 0} where
  -- what the bytes used so far ask, whatever they are, with what comes after the last whole request
  abbrev pub Asking : JudgedRequests A → (List ℕ → List Given → List ℕ → Type 0) → Type 0
  Asking s Stands =
      (before : List ℕ) (known : List Question) → HasRead before known s
      → (left : List Given) × (rest : List ℕ) × AreAskedBy (advertised_by s) (limit_of s) before known left rest × Stands before left rest

  -- these bytes were used, and ask this
  pub record ReadsOn (old new : JudgedRequests A) (asked : List Question) (used : List ℕ) : Type 0 where
    pub reads : (before : List ℕ) (known : List Question) → HasRead before known old → HasRead (before ++ used) (known ++ asked) new
    pub advertised : advertised_by new ≡ advertised_by old
    pub limit : limit_of new ≡ limit_of old

  -- a request was read whole, and nothing after it
  pub record HasReadWhole (s : JudgedRequests A) : Type 0 where
    pub onward : IsReady s
    pub alone : Asking s (λ used left rest. (left ≡ []) × (rest ≡ []))

  -- no further request comes: a flush came instead of one, or the requests ended after a whole one
  abbrev pub ReadsNoMore : Bool → JudgedRequests A → Type 0
  ReadsNoMore ended s = Asking s (λ used left rest. (rest ≡ []) × (IsStop (judged_of (text_of s) left) ⊎ ((left ≡ []) × (ended ≡ true))))
