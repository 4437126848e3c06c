use Rattle.git_server.proofs.advertisement.AdvertisementLine.append.Goals as goal

pub returns-in-Sha1 : goal.returns-in-Sha1
returns-in-Sha1 c = rw (c.in-ObjectFormat.is, c.in-Sha1.is) c.append_packet-in-Sha1.ensures

pub returns-in-Sha256 : goal.returns-in-Sha256
returns-in-Sha256 c = rw (c.in-ObjectFormat.is, c.in-Sha256.is) c.append_packet-in-Sha256.ensures

pub returns-in-ObjectInfo : goal.returns-in-ObjectInfo
returns-in-ObjectInfo c = rw c.in-ObjectInfo.is c.append_packet-in-ObjectInfo.ensures
