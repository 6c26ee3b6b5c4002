mod ScanSteps
mod HeardLines
mod LastCoin
mod CoinsLeft
mod BelievedOnly
mod RightTalk
mod HonestTalk
