use Rattle.http_workers.proofs.Serving.{stands_on}
use Rattle.door_workers.proofs.VisitLaws.{serves_one, were_asked}
use Rattle.door_workers.proofs.door.serve_next.Goals as goal

pub returns-in-Some-clause-serves : goal.returns-in-Some-clause-serves
returns-in-Some-clause-serves g c =
    serves_one g.A.L.Link.ends g.A.L.Link.holds _ _ _ _ _ _ _ (rw c.in-Some.is at c.in_ok-link.ensures)
    c.serve_connection-ended.ensures.serves c.serve_connection-ended.ensures.link_holds c.give_back.ensures

pub returns-in-Some-clause-stands : goal.returns-in-Some-clause-stands
returns-in-Some-clause-stands g c =
    let those = were_asked _ _ _ _ c.serve_connection-ended.ensures.serves in
    stands_on g.T.Teller.stands _ _ those.0 c.requires those.1
