-- A clerk may go to another thread where its disk and its clock may, and its handle is shared.
use denote.RattleType.{RattleType}
use denote.Ref.{NamedLft}
use denote.Struct.Declared.{shape}
use denote.Param.Send.{IsSend, IsSync, plain_send, recorded_send, sendable, shr_send, struct_send}
use Rattle.std.proofs.Crossing.{crosses}
use Rattle.std.proofs.alloc.Global.TheSendSync as heap
use Rattle.std.specs.contracts.snapshot.Snapshot
use Rattle.disks.specs.declared.disk.Disk
use Rattle.outside.specs.declared.clock.Clock
use Rattle.permissions.proofs.policy.Policy.TheSendSync as policy
use Rattle.permissions.specs.contracts.policy.Policy
use Rattle.journal_book.proofs.book.Book.TheSendSync as book
use Rattle.record_desk.proofs.Machines.machine.ServiceMachine.TheSendSync as machine
use Rattle.record_desk.specs.ServiceMachine.contracts.machine.ServiceMachine
use Rattle.record_desk.specs.ServiceMachine.contracts.plans.RecordedPlan
use Rattle.call_forms.specs.contracts.forms.Answer
use Rattle.std.specs.contracts.option.Option
use Rattle.turnstile.proofs.seat.Seat.TheSendSync as seat
use Rattle.turnstile.specs.declared.held.Held as held
use Rattle.turnstile.proofs.turnstile.Turnstile.TheSendSync as turnstile
use Rattle.service_desk.specs.contracts.shelf.Line
use Rattle.service_desk.specs.contracts.shelf.Shelf
use Rattle.service_desk.specs.contracts.shelf.ShelfHeld.TheImpl
use Rattle.service_desk.specs.contracts.desk.Desk
use Rattle.service_desk.specs.contracts.clerk.Clerk

abbrev Held : (D C S : RattleType) → Disk.Ghosts D.Denot → Clock.Ghosts C.Denot S.Denot → held.Ghosts (Shelf.the_row D C S).Denot (Shelf.the_row D C S).Denot (Line.the_row).Denot
Held D C S d c = TheImpl.ghosts D C S d TheImpl.no_dict c TheImpl.no_dict

snapshot_send : IsSend (Snapshot.the_row Policy.the_row)
snapshot_send = search (crosses, sendable)

pub shelf_send : (D C S : RattleType) → IsSend D → IsSend C → IsSend (Shelf.the_row D C S)
shelf_send D C S disk clock =
    recorded_send (Shelf.the_field D C S).row _ _ (Shelf.the_type D C S).to_one (struct_send (shape (Shelf.the_type D C S)) (
      snapshot_send,
      (
        book.the_field_send ServiceMachine.the_row D RecordedPlan.the_row (Option.the_row Answer.the_row) machine.the_send disk,
        (clock, (plain_send _ _ _ _ _, tt)),
      ),
    ))

pub desk_sync : (a : NamedLft) (D C S : RattleType) (d : Disk.Ghosts D.Denot) (c : Clock.Ghosts C.Denot S.Denot) → IsSend D → IsSend C
    → IsSync (Desk.the_row a D C S d c)
desk_sync a D C S d c disk clock =
    let rules : IsSync Policy.the_row = policy.the_sync in
    let turns = turnstile.the_sync (Shelf.the_row D C S) (Shelf.the_row D C S) Line.the_row (Held D C S d c) (shelf_send D C S disk clock) in
    search sendable depth 30

pub clerk_send : (a b : NamedLft) (R D C S : RattleType) (d : Disk.Ghosts D.Denot) (c : Clock.Ghosts C.Denot S.Denot) → IsSync R → IsSend D → IsSend C
    → IsSend (Clerk.the_row a b R D C S d c)
clerk_send a b R D C S d c shared disk clock =
    recorded_send (Clerk.the_field a b R D C S d c).row _ _ (Clerk.the_type a b R D C S d c).to_one (struct_send (shape (Clerk.the_type a b R D C S d c)) (
      shr_send _ _ _ shared,
      (
        shr_send _ _ _ (desk_sync b D C S d c disk clock),
        (
          seat.the_send (Shelf.the_row D C S) (Shelf.the_row D C S) Line.the_row (Held D C S d c) (shelf_send D C S disk clock),
          (heap.the_field_send, tt),
        ),
      ),
    ))
