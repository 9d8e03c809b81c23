mod TwoSenders
