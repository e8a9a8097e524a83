-- Workers and their jobs, place by place.
use Rattle.std.proofs.Common.{◌≡◌, ℕ, suc, ◌<◌, List, [], ◌∷◌, ◌++◌, length, map, take, get_or, All, sym, ap, ◌∙◌, subst, arith}
use Rattle.std.specs.List.{AllZip}
use Rattle.std.proofs.lemmas.List.{get_or-map, length-map}
use Rattle.std.proofs.lemmas.List.Elements.{All-map}
use Rattle.std.proofs.Math.Seq.{take-append_seam}
use Rattle.tellers.specs.Exchange.{Exchange, StandsForSome}
use Rattle.door_workers.specs.Workers.{job_of, worker_of}
use Rattle.door_workers.specs.declared.worker.Worker.{Worker}
use Rattle.door_workers.specs.declared.worker.Worked.{Worked}

-- what holds at each place of two lists that are as long
zip_all : {X Y : Type 0} (R : X → Y → Type 0) (xs : List X) (ys : List Y) → length xs ≡ length ys
    → ((k : ℕ) (d : X) (e : Y) → k < length xs → R (get_or xs k d) (get_or ys k e)) → AllZip R xs ys
zip_all R [] [] same each = tt
zip_all R [] (y ∷ ys) same each = absurd (omega (arith, same))
zip_all R (x ∷ xs) [] same each = absurd (omega (arith, same))
zip_all R (x ∷ xs) (y ∷ ys) same each = (
  each 0 x y (omega arith),
  zip_all R xs ys (omega (arith, same)) (λ k d e below. each (suc k) d e (omega (arith, below))),
)

-- What holds of each job holds of its worker.
pub zip_workers : {A T : Type 0} (R : Worker A T → Worked A T → Type 0) (workers : List (Worker A T)) (jobs done : List (Worked A T))
    → jobs ≡ map job_of workers → length done ≡ length jobs
    → ((k : ℕ) (d : Worked A T) → k < length jobs → R (worker_of (get_or jobs k d)) (get_or done k d)) → AllZip R workers done
zip_workers {A} {T} R workers jobs done are same each =
    let long : length jobs ≡ length workers = ap length are ∙ length-map workers job_of in
    zip_all R workers done (omega (arith, same, long))
    (λ k d e below.
    let at : get_or jobs k e ≡ job_of (get_or workers k d) =
    ap (λ (js : List (Worked A T)). get_or js k e) are ∙ get_or-map job_of workers k d e below in
    subst (λ (job : Worked A T). R (worker_of job) (get_or done k e)) at (each k e (omega (arith, below, long))))

-- a list that fills its room
pub filled : {X : Type 0} (n : ℕ) (xs more : List X) → length xs ≡ n → take n (xs ++ more) ≡ xs
filled n xs more same = ap (λ k. take k (xs ++ more)) (sym same) ∙ take-append_seam xs more

-- Jobs' tellers stand for what their workers' tellers do.
pub jobs_stand : {A T : Type 0} (stands : T → T → List Exchange → Type 0) (workers : List (Worker A T)) (jobs : List (Worked A T)) → jobs ≡ map job_of workers
    → All (λ (worker : Worker A T). StandsForSome stands worker.teller) workers → All (λ (job : Worked A T). StandsForSome stands job.teller) jobs
jobs_stand {A} {T} stands workers jobs are each =
    subst (λ (js : List (Worked A T)). All (λ (job : Worked A T). StandsForSome stands job.teller) js) (sym are)
    (All-map (λ (job : Worked A T). StandsForSome stands job.teller) job_of workers each)
